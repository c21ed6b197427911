-- Document 01, "The core and its tables", "What an op costs", "Window, switch, run" and "The plan
-- text", and document 02, E9: the limits of a plan's numbers, and the three costs that the least pad
-- rests on. Each is said here alone, under the paper's term. Assumes nothing.
use Rattle.std.specs.Prelude.{ℕ}

-- ---- the pad

-- the ticks of the dearest op
abbrev pub dearest_op : ℕ
dearest_op = 213

-- the most ticks of a switch's two flushes together: kernel sets 8 + 16, L1 8 + 32
abbrev pub most_flush_ticks : ℕ
most_flush_ticks = 64

-- the ticks of a switch's touch of the return path, after the flushes
abbrev pub touch_ticks : ℕ
touch_ticks = 100

-- the fewest ticks of a *pad*: an op that begins in a window's last tick ends dearest_op - 1 ticks after
-- the window, and the flushes and the touch follow. Proved to be that sum in proofs/LeastPad.antt.
abbrev pub least_pad : ℕ
least_pad = 376

-- the most ticks of a *pad*
abbrev pub most_pad : ℕ
most_pad = 1_000_000

-- ---- run, domains, shares and colours

-- *run*: the windows are gone through once at least
abbrev pub least_run : ℕ
least_run = 1

-- *run*: the most times that they are
abbrev pub most_run : ℕ
most_run = 1_000

-- a plan declares a domain at least
abbrev pub least_domains : ℕ
least_domains = 1

-- the most domains, and so the entries that a plan has for them
abbrev pub most_domains : ℕ
most_domains = 8

-- the least *share* of a domain, in thousandths
abbrev pub least_share : ℕ
least_share = 1

-- the greatest *share* of a domain
abbrev pub most_share : ℕ
most_share = 1_000

-- the greatest total of all shares, the whole that a share is a part of; above it 7
abbrev pub most_shares : ℕ
most_shares = 1_000

-- the colours that domains share, and so the greatest total of those that their shares give; above it
-- 16. The colour past them is the kernel's.
abbrev pub domain_colours : ℕ
domain_colours = 15

-- ---- windows

-- a plan declares a window at least
abbrev pub least_windows : ℕ
least_windows = 1

-- the most windows, and so the entries that a plan has for them
abbrev pub most_windows : ℕ
most_windows = 32

-- the fewest ticks of a window's *length*
abbrev pub least_length : ℕ
least_length = 1

-- the most ticks of a window's *length*
abbrev pub most_length : ℕ
most_length = 1_000_000

-- the most ticks of a whole run, pads included; above it 9
abbrev pub most_run_ticks : ℕ
most_run_ticks = 4_294_967_295

-- ---- the text

-- the most bytes of a plan text; above it 1
abbrev pub most_text_bytes : ℕ
most_text_bytes = 32_768
