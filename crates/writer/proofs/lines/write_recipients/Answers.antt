-- `writer::lines::write_recipients` meets its contract. The loop's invariant: the recipients from
-- the domain on are left to write. Assumes nothing.
use Rattle.writer.specs.Lines.{recipients_of, spaced}
use Rattle.writer.proofs.Recipients.{recipient_bytes, recipients_next, recipients_none}
use Rattle.writer.proofs.Rest.{remains_after, remains_all, remains_as, remains_none}
use Rattle.writer.proofs.lines.write_recipients.Goals as goal

pub loop-domain-init : goal.loop-domain-init
unfolding recipients_of
loop-domain-init c = remains_all _ _ _

pub loop-domain-preserved : goal.loop-domain-preserved
loop-domain-preserved c =
    let loop = c.loop-domain in
    let rights = c.args.rights in
    let below = c.loop-domain-test.true in
    let rest = remains_as (recipients_next rights loop.domain below) loop.invariant in
    remains_after (recipient_bytes rights loop.domain) _ rest c.write_recipient-next.ensures

pub returns : goal.returns
returns c =
    let loop = c.loop-domain in
    let args = c.args in
    remains_none args.out.now args.at (spaced (recipients_of args.rights))
    (remains_as (recipients_none args.rights loop.domain c.loop-domain-test.false) loop.invariant)
