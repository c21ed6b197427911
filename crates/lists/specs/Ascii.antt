-- A quoted text as the bytes that it stands for. Every character quoted in these definitions is
-- ASCII, one byte. Assumes nothing.
use Rattle.std.specs.Prelude.{ℕ, List, [], ◌∷◌}
use Prim.Native.Char.{code}
use Prim.Native.String.{String, [] as «none», ◌∷◌ as ◌then◌}

unfoldable pub bytes_of : String → List ℕ
bytes_of «none» = []
bytes_of (◌then◌ letter text) = code letter ∷ bytes_of text
