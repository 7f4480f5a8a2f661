-- Scales whose codes are their levels: a code leads to a level only as that of a grade.
use Rattle.std.specs.Prelude.{◌≡◌, ℕ, zero, suc, ◌≤◌, Some, nat_le, refl}
use Rattle.std.proofs.Common.{sym, arith, leb-true}
use Rattle.std.proofs.lemmas.Option.{cond_some}
use Rattle.grades.specs.declared.thousandths.Thousandths.{Thousandths}
use Rattle.grades.specs.declared.words.Words.{Words}
use Rattle.grades.specs.declared.words.Words.TheVariants.{Never, Hardly, Seldom, Even, Often, Mostly, Sure}
use Rattle.grades.specs.declared.yes_no.YesNo.{YesNo}
use Rattle.grades.specs.declared.yes_no.YesNo.TheVariants.{No, Yes}
use Rattle.grades.specs.Levels.{thousandths_level, word_level, yes_no_level, level_of_code}

-- where each level up to the height has a grade
pub encoded : {S : Type 0} (level : S → ℕ) (height : ℕ) → ((p : ℕ) → p ≤ height → (x : S) × (level x ≡ p)) →
    (c p : ℕ) → level_of_code height c ≡ Some p → (x : S) × ((level x ≡ p) × (p ≡ c))
encoded level height grade_at c p e =
    let is = cond_some (nat_le c height) c p e in
    let grade = grade_at p (omega (arith, leb-true c height is.0, is.1)) in
    (grade.0, (grade.1, sym is.1))

pub thousandths_at : (p : ℕ) → p ≤ 1000 → (x : Thousandths) × (thousandths_level x ≡ p)
thousandths_at p h = (record { 0 = p }, omega arith)

pub word_at : (p : ℕ) → p ≤ 6 → (x : Words) × (word_level x ≡ p)
word_at zero h = (Never, refl)
word_at (suc zero) h = (Hardly, refl)
word_at (suc (suc zero)) h = (Seldom, refl)
word_at (suc (suc (suc zero))) h = (Even, refl)
word_at (suc (suc (suc (suc zero)))) h = (Often, refl)
word_at (suc (suc (suc (suc (suc zero))))) h = (Mostly, refl)
word_at (suc (suc (suc (suc (suc (suc zero)))))) h = (Sure, refl)
word_at (suc (suc (suc (suc (suc (suc (suc p))))))) h = absurd (omega arith)

pub answer_at : (p : ℕ) → p ≤ 1 → (x : YesNo) × (yes_no_level x ≡ p)
answer_at zero h = (No, refl)
answer_at (suc zero) h = (Yes, refl)
answer_at (suc (suc p)) h = absurd (omega arith)
