use Rattle.std.proofs.Common.{Some, sym, ap, ◌∙◌, lit<}
use Rattle.std.specs.Str.Parse.{digits_value}
use Rattle.std.proofs.lemmas.Str.Pattern.{strip_suffix_char}
use Rattle.xpath_child.proofs.Index.{not_closed, index_none, index_some}
use lib.Utf8.{encode}
use Rattle.xpath_child.proofs.step.read_index.Goals as goal

pub returns-in_err-digits : goal.returns-in_err-digits
unfolding encode
returns-in_err-digits c = rw c.from_residual.ensures (index_none c.args.text.now (not_closed c.args.text.now c.in_err-digits.ensures.cases))

pub returns-then-is_index : goal.returns-then-is_index
returns-then-is_index c =
    let h = sym c.if-is_index.ensures in
    let closed = strip_suffix_char 93 c.args.text.now (Some c.in_ok-digits.digits) c.in_ok-digits.ensures.cases (lit< tt) in
    ap Some (c.number.ensures ∙ ap (digits_value 10) c.as_bytes.ensures.value) ∙ index_some c.args.text.now c.in_ok-digits.digits.now closed h
