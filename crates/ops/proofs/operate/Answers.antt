-- `ops::operate` meets its contract. Assumes nothing.
use mathlib.Core.Path.{refl, subst}
use Rattle.ops.specs.Ops.{compute_of, effect_by}
use Rattle.script.specs.Limits.{OpWithinLimits}
use Rattle.ops.proofs.Operations.{receive_below, send_below}
use Rattle.ops.proofs.operate.Goals as goal

pub send-requires : goal.send-requires
send-requires c =
    let start = c in
    let below = send_below _ _ (subst OpWithinLimits c.in-Send.is start.requires.1) in
    (start.requires.0, below, start.requires.2, start.requires.3)

pub receive-requires : goal.receive-requires
receive-requires c =
    let start = c in
    let below = receive_below _ (subst OpWithinLimits c.in-Receive.is start.requires.1) in
    (start.requires.0, below, start.requires.2, start.requires.3)

pub returns-in-Read : goal.returns-in-Read
unfolding effect_by
returns-in-Read c =
    λ plan rights masks.
    rw c.in-Read.is (c.touch.ensures plan _ masks)

pub returns-in-Write : goal.returns-in-Write
unfolding effect_by
returns-in-Write c =
    λ plan rights masks.
    rw c.in-Write.is (c.touch-in-Write.ensures plan _ masks)

pub returns-in-Send : goal.returns-in-Send
unfolding effect_by
returns-in-Send c =
    let call = c in
    λ plan rights masks. rw call.in-Send.is (call.send.ensures plan rights)

pub returns-in-Receive : goal.returns-in-Receive
unfolding effect_by
returns-in-Receive c =
    let call = c in
    λ plan rights masks. rw call.in-Receive.is (call.receive.ensures plan rights)

pub returns-in-Compute : goal.returns-in-Compute
unfolding effect_by compute_of
returns-in-Compute c = λ plan rights masks. rw c.in-Compute.is refl
