-- What a call answers of itself: that it did its work, or the refusal for which it did nothing.
-- Assumes nothing.
use Rattle.std.specs.Prelude.{Result, Err}
use Rattle.refusal.specs.declared.Refusal.{Refusal}

abbrev pub Verdict : Type 0
Verdict = Result Unit Refusal

-- that a call is refused, as its verdict
abbrev pub refused_with : Refusal → Verdict
refused_with refusal = Err refusal
