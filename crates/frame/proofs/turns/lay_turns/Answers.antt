-- `frame::turns::lay_turns` meets its contract. The loop's invariant: zeros, with the turns so far stored into them.
-- Assumes nothing.
use mathlib.Core.List.{List}
use mathlib.Core.Path.{◌∙◌, ◌≡◌, ap, ap₂, refl}
use Prim.Native.Nat.{◌+◌, ℕ}
use native.Mathlib.Omega.{arith}
use lib.ListN.{replicate}
use lib.Seq.{sets}
use Rattle.plan.specs.Limits.{most_domains, most_windows}
use Rattle.frame.specs.Quotas.{entry_of}
use Rattle.frame.specs.Turns.{turn_windows, first_turns}
use Rattle.frame.proofs.LaidTurns.{turns_grow}
use Rattle.frame.proofs.Laying.{stored_in_zeros, turns_longer, turns_stored}
use Rattle.frame.proofs.turns.lay_turns.Goals as goal

pub loop-turn-init : goal.loop-turn-init
unfolding first_turns
loop-turn-init c = (refl, refl)

pub lay_turn-next-requires : goal.lay_turn-next-requires
lay_turn-next-requires c =
    let loop = c.loop-turn in
    let start = c in
    let windows = entry_of start.args.windows in
    let longer = turns_longer windows loop.turn in
    let within = turns_grow windows (loop.turn + 1) start.args.turns (omega arith) in
    omega (arith, start.requires, loop.invariant)

pub loop-turn-preserved : goal.loop-turn-preserved
loop-turn-preserved c =
    let loop = c.loop-turn in
    let windows = entry_of c.args.windows in
    let longer = turns_longer windows loop.turn in (
      omega (arith, c.lay_turn-next.ensures.0, loop.invariant),
      c.lay_turn-next.ensures.1
          ∙ ap₂ (λ (frame : List ℕ) (next : ℕ). sets frame next (turn_windows windows loop.turn most_domains)) loop.invariant.1 loop.invariant.0
          ∙ turns_stored windows loop.turn (replicate most_windows 0),
    )

pub returns : goal.returns
returns c =
    let loop = c.loop-turn in
    let start = c in
    let ended : loop.turn ≡ start.args.turns = omega arith in
    loop.invariant.1
    ∙ ap (λ (turns : ℕ). sets (replicate most_windows 0) 0 (first_turns (entry_of start.args.windows) turns)) ended
    ∙ stored_in_zeros most_windows _ start.requires
