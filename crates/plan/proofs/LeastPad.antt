-- The least pad is tight: it holds the dearest op, begun in the last tick of a window, and the two
-- flushes and the touch after it, and one tick less would not. Assumes nothing.
use Prim.Native.Nat.{◌+◌}
use mathlib.Core.Path.{◌≡◌, refl}
use Rattle.plan.specs.Limits.{dearest_op, least_pad, most_flush_ticks, touch_ticks}

pub least_pad_is_tight : least_pad + 1 ≡ dearest_op + most_flush_ticks + touch_ticks
least_pad_is_tight = refl
