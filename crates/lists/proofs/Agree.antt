-- Two lists of numbers that agree at the indices which a predicate names, and what stores leave of that: what agreed
-- before agrees after one store made to both lists; a store elsewhere touches no named index; and the index to which
-- both were given one number agrees, whatever stood there. Assumes nothing.
use Prim.Native.Nat.{ℕ, suc, ◌+◌, ◌≤◌, ◌<◌}
use mathlib.Core.List.{List, [], ◌∷◌, ◌++◌, append_assoc}
use mathlib.Core.Path.{◌≡◌, refl, sym, ap, subst, ◌∙◌}
use native.Mathlib.Decide.{ℕ_discrete, dec_lt}
use native.Mathlib.Omega.{arith}
use lib.ListN.{length, get_or, set, take, drop, length-set, length-take, length-drop, get_or-eq_default}
use lib.Seq.{sets, sets-eq, set_out, get_or-set_same, get_or-set_other, get_or-take, get_or-drop, drop-drop, ext_get_or}
use Rattle.lists.specs.Part.{part, splice}

pub record Agree (Named : ℕ → Type 0) (one other : List ℕ) : Type 0 where
  pub len : length one ≡ length other
  pub at : (index : ℕ) → Named index → get_or one index 0 ≡ get_or other index 0

-- an index among the `count` indices from `first` on
pub record InRange (first count index : ℕ) : Type 0 where
  pub from : first ≤ index
  pub below : index < first + count

-- a named index that is none of those
pub record Beside (Named : ℕ → Type 0) (first count index : ℕ) : Type 0 where
  pub named : Named index
  pub outside : InRange first count index → ⊥

-- ---- agreement is an equivalence, and goes over to fewer indices

pub agree_refl : (Named : ℕ → Type 0) (list : List ℕ) → Agree Named list list
agree_refl Named list = record { len = refl; at = λ index p. refl }

pub agree_sym : {Named : ℕ → Type 0} {one other : List ℕ} → Agree Named one other → Agree Named other one
agree_sym a = record { len = sym a.len; at = λ index p. sym (a.at index p) }

pub agree_trans : {Named : ℕ → Type 0} {one two three : List ℕ}
    → Agree Named one two → Agree Named two three → Agree Named one three
agree_trans a b = record { len = a.len ∙ b.len; at = λ index p. a.at index p ∙ b.at index p }

pub agree_fewer : {Named Fewer : ℕ → Type 0} {one other : List ℕ}
    → ((index : ℕ) → Fewer index → Named index) → Agree Named one other → Agree Fewer one other
agree_fewer named a = record { len = a.len; at = λ index p. a.at index (named index p) }

-- ---- one store

-- the same store in both: agreement at every other named index is enough
pub set_alike : {Named : ℕ → Type 0} {one other : List ℕ} (i value : ℕ)
    → Agree (λ index. Named index × (index ≡ i → ⊥)) one other → Agree Named (set one i value) (set other i value)
set_alike {Named} {one} {other} i value a =
    record {
      len = length-set one i value ∙ a.len ∙ sym (length-set other i value);
      at = λ index p. go index p (ℕ_discrete index i);
    }
  where
    stored : Dec (i < length one) → get_or (set one i value) i 0 ≡ get_or (set other i value) i 0
    stored (yes h) =
        get_or-set_same one i value 0 h ∙ sym (get_or-set_same other i value 0 (subst (λ (n : ℕ). i < n) a.len h))
    stored (no h) =
        let out : length one ≤ i = omega arith in
        let out' : length other ≤ i = subst (λ (n : ℕ). n ≤ i) a.len out in
        let both : get_or one i 0 ≡ get_or other i 0 =
        get_or-eq_default one 0 out ∙ sym (get_or-eq_default other 0 out') in
        ap (λ (l : List ℕ). get_or l i 0) (set_out one i value out)
        ∙ both
        ∙ sym (ap (λ (l : List ℕ). get_or l i 0) (set_out other i value out'))

    go : (index : ℕ) → Named index → Dec (index ≡ i) → get_or (set one i value) index 0 ≡ get_or (set other i value) index 0
    go index p (yes e) = rw e (stored (dec_lt i (length one)))
    go index p (no ne) =
        get_or-set_other one i index value 0 ne
        ∙ a.at index (p, ne)
        ∙ sym (get_or-set_other other i index value 0 ne)

-- a store at an index that is not named
pub set_away : {Named : ℕ → Type 0} (list : List ℕ) (i value : ℕ) → (Named i → ⊥) → Agree Named list (set list i value)
set_away {Named} list i value unnamed =
    record {
      len = sym (length-set list i value);
      at = λ index p. sym (get_or-set_other list i index value 0 (λ e. unnamed (subst Named e p)));
    }

-- ---- a run of stores

pub sets_alike : {Named : ℕ → Type 0} {one other : List ℕ} (first : ℕ) (values : List ℕ)
    → Agree (Beside Named first (length values)) one other
    → Agree Named (sets one first values) (sets other first values)
sets_alike first [] a = agree_fewer (λ index p. record { named = p; outside = λ h. omega arith }) a
sets_alike first (value ∷ values) a =
    sets_alike (suc first) values
    (set_alike first value
    (agree_fewer (λ index p. record { named = p.0.named; outside = λ h. p.0.outside (omega arith) }) a))

pub sets_away : {Named : ℕ → Type 0} (list : List ℕ) (first : ℕ) (values : List ℕ)
    → ((index : ℕ) → InRange first (length values) index → Named index → ⊥) → Agree Named list (sets list first values)
sets_away {Named} list first [] unnamed = agree_refl Named list
sets_away {Named} list first (value ∷ values) unnamed =
    agree_trans
    (set_away list first value (unnamed first (omega arith)))
    (sets_away (set list first value) (suc first) values (λ index h. unnamed index (omega arith)))

-- ---- a part rewritten

-- a part rewritten by as many numbers is a run of stores
pub splice_sets : (first count : ℕ) (fresh table : List ℕ)
    → length fresh ≡ count → first + count ≤ length table → splice first count fresh table ≡ sets table first fresh
unfolding splice
splice_sets first count fresh table full fits =
    ap (λ (rest : List ℕ). take first table ++ (fresh ++ rest)) (drop-drop count first table)
    ∙ sym (append_assoc (take first table) fresh (drop (first + count) table))
    ∙ ap (λ (n : ℕ). (take first table ++ fresh) ++ drop (first + n) table) (sym full)
    ∙ sym (sets-eq fresh table first (rw full fits))

-- a part whose indices are all named is equal in both
pub part_alike : {Named : ℕ → Type 0} {one other : List ℕ} (first count : ℕ)
    → ((index : ℕ) → InRange first count index → Named index)
    → Agree Named one other
    → part first count one ≡ part first count other
unfolding part
part_alike {Named} {one} {other} first count named a =
    ext_get_or 0 (take count (drop first one)) (take count (drop first other))
    (simp (length-take, length-drop, a.len))
    (λ i h.
    let short : i < count = omega (arith, simp length-take at h) in
    simp (get_or-take, get_or-drop) (a.at (first + i) (named (first + i) (omega arith))))
