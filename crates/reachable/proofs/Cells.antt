-- What holds of a cell of a list after a store. Assumes nothing.
use Prim.Native.Nat.{ℕ, zero, suc}
use mathlib.Core.List.{List, [], ◌∷◌}
use mathlib.Core.Path.{◌≡◌, refl, ap}
use lib.ListN.{get_or, length, replicate, set, length-replicate}

-- what holds of a cell, and of the number stored if it is stored there, holds of the cell after the store
pub cell_holds : (Holds : ℕ → Type 0) (cells : List ℕ) (place cell number : ℕ)
    → Holds (get_or cells cell 0)
    → (cell ≡ place → Holds number)
    → Holds (get_or (set cells place number) cell 0)
cell_holds Holds [] place cell number kept stored = kept
cell_holds Holds (head ∷ cells) zero zero number kept stored = stored refl
cell_holds Holds (head ∷ cells) zero (suc cell) number kept stored = kept
cell_holds Holds (head ∷ cells) (suc place) zero number kept stored = kept
cell_holds Holds (head ∷ cells) (suc place) (suc cell) number kept stored =
    cell_holds Holds cells place cell number kept (λ same. stored (ap suc same))

-- every cell of a list of zeros is 0, and so is every cell past its end
pub cell_zeros : (count cell : ℕ) → ◌≡◌ {A = ℕ} (get_or (replicate count 0) cell 0) 0
cell_zeros zero cell = refl
cell_zeros (suc count) zero = refl
cell_zeros (suc count) (suc cell) = cell_zeros count cell

pub zeros_length : (count : ℕ) → length {A = ℕ} (replicate count 0) ≡ count
zeros_length count = length-replicate {A = ℕ} count 0
