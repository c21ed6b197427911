-- `input::read_full` meets its contract: each read adds what it took. Assumes nothing.
use Rattle.std.proofs.Common.{◌-◌, arith, length, rules, take}
use borrow.Rule.Slice.PartMut.{put_mid}
use Rattle.std.specs.Io.KnownBytes.{Consumes}
use Rattle.input.proofs.Reading.{Consumes-failed, Consumes-read}
use Rattle.input.proofs.read_full.Goals.{in-Ok, in-Err+else-ne}
use Rattle.input.proofs.read_full.Goals as goal

pub loop-preserved : goal.loop-preserved
loop-preserved g c =
    let within = c.loop.invariant.1 in
    let before = c.loop.invariant.2 in
    let joined : Consumes (g.R.Read.remaining c.args.reader.now) (g.R.Read.remaining c.read.new.self)
    (take c.match-read.count (put_mid c.loop.count (length c.loop.buffer - c.loop.count) c.loop.buffer c.read.new.buf)) =
    elim c.match-read.branch [
      | in-Ok w ↦ Consumes-read _ _ _ _ within _ _ _ _ _ w.in-Ok.ensures.bound.0 (omega arith) before w.in-Ok.ensures.bytes.0
      | in-Err+else-ne w ↦ Consumes-failed _ _ _ _ within _ _ _ _ w.count-is before w.in-Err.ensures.bytes
    ] in
    (search rules, search rules, joined)
