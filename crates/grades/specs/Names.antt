-- The names of grades that are words, as ASCII text.
use Rattle.std.specs.Prelude.{ℕ, List, codes}
use Rattle.grades.specs.declared.words.Words.{Words}
use Rattle.grades.specs.declared.words.Words.TheVariants.{Never, Hardly, Seldom, Even, Often, Mostly, Sure}
use Rattle.grades.specs.declared.yes_no.YesNo.{YesNo}
use Rattle.grades.specs.declared.yes_no.YesNo.TheVariants.{No, Yes}

abbrev pub word_name : Words → List ℕ
word_name Never = codes "never"
word_name Hardly = codes "hardly"
word_name Seldom = codes "seldom"
word_name Even = codes "even"
word_name Often = codes "often"
word_name Mostly = codes "mostly"
word_name Sure = codes "sure"

abbrev pub yes_no_name : YesNo → List ℕ
yes_no_name No = codes "no"
yes_no_name Yes = codes "yes"
