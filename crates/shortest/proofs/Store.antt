-- What the script store is known to hold while lines are read: an op at each position that is counted, and zeros past them; kept by each
-- op that is taken. Assumes nothing.
use Rattle.std.specs.Prelude.{Some, None}
use Prim.Native.Nat.{ℕ, ◌+◌, ◌*◌, ◌≤◌, ◌<◌}
use native.Mathlib.Omega.{arith}
use mathlib.Core.Bool.{Bool, true, false}
use mathlib.Core.List.{List}
use mathlib.Core.Path.{◌≡◌, refl, sym, ap, ◌∙◌}
use lib.Dec.{ltb}
use lib.ListN.{get_or, length, length-replicate, length-set, set}
use lib.Seq.{get_or-set_other, get_or-set_same}
use borrow.Author.Tests.{eq-eqb, lt-ltb, ltb-false, ltb-true}
use Rattle.lists.proofs.Tests.{second_passes}
use Rattle.plan.specs.declared.Plan.{Plan}
use Rattle.plan.specs.Limits.{most_domains}
use Rattle.plan.proofs.Sums.{below_all}
use Rattle.script.specs.declared.Op.{Op}
use Rattle.script.specs.Fetch.{decode_of, fetch_of, op_of}
use Rattle.script.specs.Limits.{OpWithinLimits, most_ops, scripts_length}
use Rattle.script.specs.ScriptEnd.{stored_ops}
use Rattle.script.specs.Stored.{stored_of}
use Rattle.script.proofs.Laws.{decode_stored}
use Rattle.script.proofs.ScriptEnd.{end_is_none, past_end, scripts_end}
use Rattle.lexer.proofs.Reached.{cond_holds}
use Rattle.reader.specs.Draft.{no_draft, no_ops}
use Rattle.reader.proofs.GoodDraft.{zeros}
use Rattle.syntax.proofs.Choices.{same_or_not}
use Rattle.writer.specs.Scripts.{op_or_zero, ops_alone, written_ops}

-- with this many domains declared, so many ops counted of each, and this store
pub record Stored (domains : ℕ) (counts store : List ℕ) : Type 0 where
  counts_size : length counts ≡ most_domains
  store_size : length store ≡ scripts_length
  few : (domain : ℕ) → get_or counts domain 0 ≤ most_ops
  ops : (domain position : ℕ) → position < get_or counts domain 0 → fetch_of store domain position ≡ None → ⊥
  zero : (domain position : ℕ) → position < most_ops → get_or counts domain 0 ≤ position → get_or store (most_ops * domain + position) 0 ≡ 0
  none : (domain : ℕ) → domains ≤ domain → get_or counts domain 0 ≡ 0

-- before the first line
pub stored_first : Stored no_draft.plan.domains no_draft.counts no_ops
unfolding no_draft no_ops
stored_first =
    record {
      counts_size = length-replicate {A = ℕ} most_domains 0;
      store_size = length-replicate {A = ℕ} scripts_length 0;
      few = λ domain. omega (arith, zeros most_domains domain);
      ops = λ domain position below. absurd (omega (arith, zeros most_domains domain));
      zero = λ domain position within past. zeros scripts_length (most_ops * domain + position);
      none = λ domain past. zeros most_domains domain;
    }

-- ---- one domain more

pub stored_declared : (domains : ℕ) (counts store : List ℕ) → Stored domains counts store → Stored (domains + 1) counts store
stored_declared domains counts store stored =
    record {
      counts_size = stored.counts_size;
      store_size = stored.store_size;
      few = stored.few;
      ops = stored.ops;
      zero = stored.zero;
      none = λ domain past. stored.none domain (omega arith);
    }

-- ---- one op more

-- the counts with one op more of a domain
abbrev pub counts_with : List ℕ → ℕ → List ℕ
counts_with counts domain = set counts domain (get_or counts domain 0 + 1)

-- the store with that op behind those that are counted
abbrev pub store_with : List ℕ → List ℕ → ℕ → Op → List ℕ
store_with counts store domain op = set store (most_ops * domain + get_or counts domain 0) (stored_of op)

-- an op can be taken: its domain is declared, its script is not full, and the op is within its limits
pub record Room (domains : ℕ) (counts : List ℕ) (domain : ℕ) (op : Op) : Type 0 where
  pub declared : domain < domains
  pub most : domains ≤ most_domains
  pub room : get_or counts domain 0 < most_ops
  pub limits : OpWithinLimits op

module _ (domains : ℕ) (counts store : List ℕ) (domain : ℕ) (op : Op) (stored : Stored domains counts store) (room : Room domains counts domain op) where
  pub count_here : get_or (counts_with counts domain) domain 0 ≡ get_or counts domain 0 + 1
  count_here =
      let size = stored.counts_size in
      get_or-set_same counts domain (get_or counts domain 0 + 1) 0 (omega arith)

  pub count_other : (other : ℕ) → (other ≡ domain → ⊥) → get_or (counts_with counts domain) other 0 ≡ get_or counts other 0
  count_other other differs = get_or-set_other counts domain other (get_or counts domain 0 + 1) 0 differs

  entry_other :
      (other position : ℕ)
      → position < most_ops
      → (other ≡ domain → position ≡ get_or counts domain 0 → ⊥)
      → get_or (store_with counts store domain op) (most_ops * other + position) 0 ≡ get_or store (most_ops * other + position) 0
  entry_other other position within differs =
      let space = room.room in
      get_or-set_other store (most_ops * domain + get_or counts domain 0) (most_ops * other + position) (stored_of op) 0
      (λ same. differs (omega arith) (omega arith))

  pub fetch_other :
      (other position : ℕ)
      → (other ≡ domain → position ≡ get_or counts domain 0 → ⊥)
      → fetch_of (store_with counts store domain op) other position ≡ fetch_of store other position
  unfolding fetch_of
  fetch_other other position differs = go (ltb position most_ops) refl
    where
      go : (inside : Bool) → ltb position most_ops ≡ inside
          → fetch_of (store_with counts store domain op) other position ≡ fetch_of store other position
      go true test = rw (entry_other other position (ltb-true position most_ops test) differs)
      go false test = rw test

  pub fetch_here : fetch_of (store_with counts store domain op) domain (get_or counts domain 0) ≡ Some op
  unfolding fetch_of
  fetch_here =
      let space = room.room in
      let size = stored.store_size in
      rw (
        lt-ltb (get_or counts domain 0) most_ops space,
        get_or-set_same store (most_ops * domain + get_or counts domain 0) (stored_of op) 0 (omega arith),
      ) (decode_stored op room.limits)

  pub stored_more : Stored domains (counts_with counts domain) (store_with counts store domain op)
  stored_more =
      record {
        counts_size = length-set counts domain (get_or counts domain 0 + 1) ∙ stored.counts_size;
        store_size = length-set store (most_ops * domain + get_or counts domain 0) (stored_of op) ∙ stored.store_size;
        few = λ other. same_or_not other domain
            (λ same. rw same (omega (arith, count_here, room.room)))
            (λ differs. omega (arith, count_other other differs, stored.few other));
        ops = λ other position below ends. same_or_not other domain
            (λ same. here position (rw same at below) (rw same at ends))
            (λ differs.
            stored.ops other position (omega (arith, count_other other differs)) (sym (fetch_other other position (λ same _. differs same)) ∙ ends));
        zero = λ other position within past. same_or_not other domain
            (λ same. rw same (rest position within (rw same at past)))
            (λ differs.
            entry_other other position within (λ same _. differs same) ∙ stored.zero other position within (omega (arith, count_other other differs)));
        none = λ other past.
            let declared = room.declared in
            count_other other (λ same. omega arith) ∙ stored.none other past;
      }
    where
      here : (position : ℕ) → position < get_or (counts_with counts domain) domain 0
          → fetch_of (store_with counts store domain op) domain position ≡ None → ⊥
      here position below ends = same_or_not position (get_or counts domain 0)
          (λ same. end_is_none op (sym ends ∙ ap (fetch_of (store_with counts store domain op) domain) same ∙ fetch_here))
          (λ differs. stored.ops domain position (omega (arith, count_here)) (sym (fetch_other domain position (λ _ same. differs same)) ∙ ends))

      rest : (position : ℕ) → position < most_ops → get_or (counts_with counts domain) domain 0 ≤ position
          → get_or (store_with counts store domain op) (most_ops * domain + position) 0 ≡ 0
      rest position within past =
          let one : get_or (counts_with counts domain) domain 0 ≡ get_or counts domain 0 + 1 = count_here in
          entry_other domain position within (λ _ same. omega arith) ∙ stored.zero domain position within (omega arith)

-- ---- the scripts

module _ (plan : Plan) (counts store : List ℕ) (stored : Stored plan.domains counts store) where
  there : (domain : ℕ) → fetch_of store domain (get_or counts domain 0) ≡ None
  unfolding fetch_of decode_of op_of
  there domain = go (ltb (get_or counts domain 0) most_ops) refl
    where
      go : (inside : Bool) → ltb (get_or counts domain 0) most_ops ≡ inside → fetch_of store domain (get_or counts domain 0) ≡ None
      go true test =
          let within = ltb-true (get_or counts domain 0) most_ops test in
          rw (test, stored.zero domain (get_or counts domain 0) within (omega arith))
      go false test = past_end store domain (get_or counts domain 0) (ltb-false (get_or counts domain 0) most_ops test)

  -- the ops of a script are those that were counted
  pub stored_ops_lem : (domain : ℕ) → get_or counts domain 0 ≡ stored_ops store domain
  stored_ops_lem domain =
      scripts_end.once store domain (get_or counts domain 0)
      (record { within = stored.few domain; before = stored.ops domain; there = there domain })

  written_ops_lem : (domain : ℕ) → written_ops plan.domains store domain ≡ get_or counts domain 0
  unfolding written_ops
  written_ops_lem domain =
      cond_holds (λ (count : ℕ). count ≡ get_or counts domain 0) (ltb domain plan.domains) (stored_ops store domain) 0
      (λ _. sym (stored_ops_lem domain))
      (λ past. sym (stored.none domain (ltb-false domain plan.domains past)))

  -- the store holds the ops of its scripts alone
  pub stored_alone : ops_alone plan store ≡ true
  unfolding ops_alone op_or_zero
  stored_alone =
      below_all _ most_domains λ domain below.
      below_all (op_or_zero plan.domains store domain) most_ops λ position within.
      go domain position within (ltb position (get_or counts domain 0)) refl
    where
      go : (domain position : ℕ) → position < most_ops → (before : Bool) → ltb position (get_or counts domain 0) ≡ before
          → op_or_zero plan.domains store domain position ≡ true
      go domain position within true test = rw (written_ops_lem domain, test)
      go domain position within false test =
          let past = ltb-false position (get_or counts domain 0) test in
          second_passes (ltb position (written_ops plan.domains store domain)) _ (eq-eqb _ 0 (stored.zero domain position within past))
