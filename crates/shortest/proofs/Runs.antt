-- Where a run of bytes is over: the run from an offset ends at such an offset, and from one no run goes on. Assumes nothing.
use Prim.Native.Nat.{ℕ, suc, ◌+◌}
use native.Mathlib.Omega.{arith}
use mathlib.Core.Bool.{Bool, true, false}
use mathlib.Core.List.{List, [], ◌∷◌}
use mathlib.Core.Path.{◌≡◌, refl, sym, ap, ◌∙◌}
use lib.ListN.{drop}
use lib.Seq.{drop-drop}
use Rattle.lexer.specs.Bytes.{ends_run}
use Rattle.lexer.specs.Scan.{scan_from, scan_of}
use Rattle.lexer.proofs.Scanned.{stops_at}

-- what is left of the text from an offset on is empty or begins with a byte that ends a run
abbrev pub RunOver : List ℕ → ℕ → Type 0
RunOver text at = stops_at ends_run (drop at text) ≡ true

-- ---- the end of a run

-- a walk over these bytes, the first of which stands at `at`, ends where the test passes
record Halts (stops : ℕ → Bool) (bytes : List ℕ) (at end : ℕ) : Type 0 where
  passed : ℕ
  is : end ≡ at + passed
  here : stops_at stops (drop passed bytes) ≡ true

halts : (stops : ℕ → Bool) (bytes : List ℕ) (at : ℕ) → Halts stops bytes at (scan_from stops bytes at)
unfolding scan_from
halts stops [] at = record { passed = 0; is = omega arith; here = refl }
halts stops (byte ∷ rest) at = by_test_lem (stops byte) refl (halts stops rest (at + 1))
  where
    by_test_lem :
        (test : Bool)
        → stops byte ≡ test
        → Halts stops rest (at + 1) (scan_from stops rest (at + 1))
        → Halts stops (byte ∷ rest) at (elim test [ true ↦ at | false ↦ scan_from stops rest (at + 1) ])
    by_test_lem true stop further = record { passed = 0; is = omega arith; here = stop }
    by_test_lem false on further = record { passed = suc further.passed; is = omega (arith, further.is); here = further.here }

pub run_ends : (text : List ℕ) (start : ℕ) → RunOver text (scan_of ends_run text start)
unfolding scan_of
run_ends text start =
    let end = halts ends_run (drop start text) start in
    let left : drop (scan_from ends_run (drop start text) start) text ≡ drop end.passed (drop start text) =
    ap (λ (n : ℕ). drop n text) end.is ∙ sym (drop-drop end.passed start text) in
    ap (stops_at ends_run) left ∙ end.here

-- ---- no run goes on

stays : (bytes : List ℕ) (at : ℕ) → stops_at ends_run bytes ≡ true → scan_from ends_run bytes at ≡ at
unfolding scan_from
stays [] at over = refl
stays (byte ∷ rest) at over = rw (over, scan_from)

pub run_stays : (text : List ℕ) (at : ℕ) → RunOver text at → scan_of ends_run text at ≡ at
unfolding scan_of
run_stays text at over = stays (drop at text) at over
