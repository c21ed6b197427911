-- `writer::lines::write_domain` meets its contract. Assumes nothing.
use native.Mathlib.Omega.{arith}
use Rattle.lists.specs.Ascii.{bytes_of}
use Rattle.writer.proofs.Lengths.{domain_length}
use Rattle.writer.proofs.Pieces.{domain_wrote}
use Rattle.writer.proofs.lines.write_domain.Goals as goal

pub write_numbered-numbered-requires : goal.write_numbered-numbered-requires
unfolding bytes_of
write_numbered-numbered-requires c = let args = c.args in omega (arith, c.requires, domain_length args.domain args.share args.rights)

pub write_numbered-shared-requires : goal.write_numbered-shared-requires
unfolding bytes_of
write_numbered-shared-requires c =
    let args = c.args in
    omega (arith, c.requires, domain_length args.domain args.share args.rights, c.write_numbered-numbered.ensures.0)

pub write_bytes-worded-requires : goal.write_bytes-worded-requires
unfolding bytes_of
write_bytes-worded-requires c =
    let args = c.args in
    omega (arith, c.requires, domain_length args.domain args.share args.rights, c.write_numbered-numbered.ensures.0, c.write_numbered-shared.ensures.0)

pub write_recipients-listed-requires : goal.write_recipients-listed-requires
unfolding bytes_of
write_recipients-listed-requires c =
    let args = c.args in
    omega (
      arith,
      c.requires,
      domain_length args.domain args.share args.rights,
      c.write_numbered-numbered.ensures.0,
      c.write_numbered-shared.ensures.0,
      c.write_bytes-worded.ensures.0,
    )

pub write_bytes-requires : goal.write_bytes-requires
unfolding bytes_of
write_bytes-requires c =
    let args = c.args in
    omega (
      arith,
      c.requires,
      domain_length args.domain args.share args.rights,
      c.write_numbered-numbered.ensures.0,
      c.write_numbered-shared.ensures.0,
      c.write_bytes-worded.ensures.0,
      c.write_recipients-listed.ensures.0,
    )

pub returns : goal.returns
unfolding bytes_of
returns c =
    let args = c.args in
    domain_wrote args.out.now args.at args.domain args.share args.rights
    c.write_numbered-numbered.ensures
    c.write_numbered-shared.ensures
    c.write_bytes-worded.ensures
    c.write_recipients-listed.ensures
    c.write_bytes.ensures
