-- Plan validity (12), both ways: the valid plans are those that the reader gives with 0, 0. One way is that a valid plan's text is
-- read back; the other is the reader's own law, that what it accepts is valid. Assumes nothing.
use Prim.Native.Nat.{ℕ}
use mathlib.Core.Bool.{true}
use mathlib.Core.Path.{◌≡◌, ap, ◌∙◌, sym}
use lib.ListN.{length-replicate}
use Rattle.plan.specs.declared.Plan.{Plan}
use Rattle.plan.specs.Validity.{plan_valid}
use Rattle.script.specs.Limits.{scripts_length}
use Rattle.reader.specs.Draft.{no_ops}
use Rattle.reader.specs.Read.{ReadOutcome}
use Rattle.reader.proofs.Accepted.{accepted_valid}
use Rattle.writer.specs.Canonical.{canonical_text}
use Rattle.roundtrip.specs.Accepted.{Given, OneMeaning, Shaped}
use Rattle.roundtrip.proofs.Alone.{none_alone}
use Rattle.roundtrip.proofs.Bytes.{text_bytes}
use Rattle.roundtrip.proofs.Fits.{text_fits}
use Rattle.roundtrip.proofs.ReadBack.{read_back}

-- a valid plan is given by its own text, without an op
valid_given : (plan : Plan) → Shaped plan → plan_valid plan ≡ true → Given plan
unfolding no_ops
valid_given plan shaped valid =
    let long = length-replicate {A = ℕ} scripts_length 0 in
    let read = read_back plan no_ops no_ops shaped valid (none_alone plan) (text_fits plan valid) long long in
    record {
      text = canonical_text plan no_ops;
      bytes = text_bytes plan no_ops;
      scripts = no_ops;
      accepted = ap (λ (r : ReadOutcome). r.verdict) read;
      gives = ap (λ (r : ReadOutcome). r.plan) read;
    }

-- a plan that some text gives is valid
pub given_valid : (plan : Plan) → Given plan → plan_valid plan ≡ true
given_valid plan given = sym (ap plan_valid given.gives) ∙ accepted_valid given.text given.scripts given.accepted

-- "accepted plan" has one meaning
pub one_meaning : OneMeaning
one_meaning plan shaped = (valid_given plan shaped, given_valid plan)
