use Rattle.std.proofs.Common.{arith, sym}
use Rattle.serde_json.specs.View.{view, members_view}
use Rattle.serde_json.proofs.Views.{members_len-members_view}
use Rattle.ld_words.proofs.OneAddress.{says_them, no_count}
use Rattle.ld_words.proofs.reach.addresses.Goals as goal

pub returns-then-len : goal.returns-then-len
returns-then-len c =
    says_them c.args.text.now c.args.nodes.now c.in_ok-addresses.addresses (view c.in_ok-value.value) (members_view c.in-Some.object.now.entries) c.in_ok-value.ensures (sym c.in-Some.ensures)
    (omega (arith, members_len-members_view c.in-Some.object.now.entries, c.len.ensures.len, c.len-2.ensures.count, c.if-len.true)) c.in_ok-addresses.ensures

pub returns : goal.returns
returns c other list says =
    no_count c.args.text.now c.args.nodes.now list (view c.in_ok-value.value) (members_view c.in-Some.object.now.entries) c.in_ok-value.ensures (sym c.in-Some.ensures)
    (λ same. omega (arith, same, members_len-members_view c.in-Some.object.now.entries, c.len.ensures.len, c.len-2.ensures.count, c.if-len.false)) says
