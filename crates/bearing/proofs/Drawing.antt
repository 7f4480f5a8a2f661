-- One draw or mark after another.
use Rattle.std.proofs.Common.{◌≡◌, ap, ◌∙◌}
use Rattle.sheets.specs.declared.sheet.Sheet.{Sheet}
use Rattle.sheets.specs.Sheets.{Kept}
use Rattle.sheets.specs.Tables.{Tables}

pub kept_then : {S : Type 0} {a b c : Sheet S} → Kept a b → Kept b c → Kept a c
kept_then p q = record { n = q.n ∙ p.n; m = q.m ∙ p.m; length_same = q.length_same ∙ p.length_same; memory_same = q.memory_same ∙ p.memory_same }

pub changed_then : (change : Tables → Tables) {T before after : Tables} → before ≡ T → after ≡ change before → after ≡ change T
changed_then change so_far e = e ∙ ap change so_far
