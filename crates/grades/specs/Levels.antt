-- The levels of the three scales, from 0 (the floor) to the scale's height (the top).
use Rattle.std.specs.Prelude.{ℕ, ◌-◌, min, cond, Some, None, Option, nat_le}
use Rattle.grades.specs.declared.thousandths.Thousandths.{Thousandths}
use Rattle.grades.specs.declared.words.Words.{Words}
use Rattle.grades.specs.declared.words.Words.TheVariants.{Never, Hardly, Seldom, Even, Often, Mostly, Sure}
use Rattle.grades.specs.declared.yes_no.YesNo.{YesNo}
use Rattle.grades.specs.declared.yes_no.YesNo.TheVariants.{No, Yes}

-- a number above 1,000 counts as 1,000
abbrev pub thousandths_level : Thousandths → ℕ
thousandths_level g = min g.0 1000

abbrev pub word_level : Words → ℕ
word_level Never = 0
word_level Hardly = 1
word_level Seldom = 2
word_level Even = 3
word_level Often = 4
word_level Mostly = 5
word_level Sure = 6

abbrev pub yes_no_level : YesNo → ℕ
yes_no_level No = 0
yes_no_level Yes = 1

-- ---- codes

-- the code of a level, on a scale whose codes are its levels
abbrev pub own_code : (level : ℕ) → ℕ
own_code level = level

-- the level of a code there, where each level up to the height has a grade
abbrev pub level_of_code : (height code : ℕ) → Option ℕ
level_of_code height code = cond (nat_le code height) (Some code) None

-- ---- opposites

abbrev pub thousandths_opposite : Thousandths → Thousandths
thousandths_opposite g = record { 0 = 1000 - thousandths_level g }

abbrev pub word_opposite : Words → Words
word_opposite Never = Sure
word_opposite Hardly = Mostly
word_opposite Seldom = Often
word_opposite Even = Even
word_opposite Often = Seldom
word_opposite Mostly = Hardly
word_opposite Sure = Never

abbrev pub yes_no_opposite : YesNo → YesNo
yes_no_opposite No = Yes
yes_no_opposite Yes = No
