use Rattle.std.proofs.Common.{arith}
use Rattle.byte_streams.proofs.Feeds.{found_behind, line_length_is}
use Rattle.byte_streams.proofs.lines.line_feed_from.Goals as goal

pub returns-in-Some-clause-length : goal.returns-in-Some-clause-length
returns-in-Some-clause-length c =
    grind (arith, found_behind c.args.from c.args.bytes.now _ c.requires.none_before c.memchr.ensures, line_length_is c.args.limit c.args.bytes.now, c.in-Some.is, c.if-count-limit.true)

pub returns-in_default-clause-length : goal.returns-in_default-clause-length
returns-in_default-clause-length c =
    grind (arith, found_behind c.args.from c.args.bytes.now _ c.requires.none_before c.memchr.ensures, line_length_is c.args.limit c.args.bytes.now, c.in-Some.is, c.if-count-limit.false)

pub returns-in_default-2-clause-length : goal.returns-in_default-2-clause-length
returns-in_default-2-clause-length c =
    grind (arith, found_behind c.args.from c.args.bytes.now _ c.requires.none_before c.memchr.ensures, line_length_is c.args.limit c.args.bytes.now, c.in_default.is)
