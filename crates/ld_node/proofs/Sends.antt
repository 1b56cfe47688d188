-- What a node sends is messages that a frame can carry.
use Rattle.std.proofs.Common.{◌≡◌, ℕ, Bool, true, List, Option, sym, ap, subst, arith}
use Rattle.std.proofs.lemmas.Bool.{and_parts, eqb-true}
use Rattle.ld_table.specs.Words.{is_in}
use Rattle.ld_ids.specs.Id.{IsNode, IsLog}
use Rattle.ld_ids.specs.Set.{IsSet, members}
use Rattle.ld_msg.specs.declared.msg.Msg.{Msg}
use Rattle.ld_msg.specs.declared.msg.Body.{Body}
use Rattle.ld_msg.specs.declared.msg.Who.{Who}
use Rattle.ld_msg.specs.declared.msg.Who.TheVariants as whos
use Rattle.ld_msg.specs.Bounds.{Is64, IsMessage, ballot_of}
use Rattle.ld_msg.specs.Network.{posted}
use Rattle.ld_op.specs.Plain.{Plain, log_of}
use Rattle.ld_op.specs.Ticks.{refill_asks}
use Rattle.ld_op.specs.Handles.{handled_by, answer_message}
use Rattle.ld_node_bounds.specs.States.{last_carried}
use Rattle.ld_node_bounds.specs.Messages.{AreMessages, MayAnswer}
use Rattle.ld_node_bounds.proofs.Ops.{log_state}
use Rattle.ld_node_bounds.proofs.Members.{members_nodes}
use Rattle.ld_node_bounds.proofs.Posts.{posts_sent}
use Rattle.ld_node_bounds.proofs.Ticking.{refill_sent}
use Rattle.ld_node_bounds.proofs.Handling.{message_handled, answers_sent}
use Rattle.ld_store.specs.Well.{IsWell}
use Rattle.ld_node.specs.Known.{Known}
use Rattle.ld_node.specs.Msgs.{is_node, is_for}

-- a message for the node goes to it
pub goes_to : (id : ℕ) (w : Who) → is_node id w ≡ true → w ≡ whos.Node id
goes_to id (whos.Node n) is = ap (λ x. whos.Node x) (eqb-true n id is)
goes_to id (whos.Sequencer e) is = absurd cc
goes_to id (whos.Reader r) is = absurd cc

pub sends_are : (id : ℕ) (known : Known) (r : ℕ) (p : Plain) (m : Msg) (b : Option Body) → IsNode id → Is64 r → IsWell p → IsMessage m → is_for id known m ≡ true
    → b ≡ (handled_by id p.generation (log_of p m.log) m.log (ballot_of m.from) r m.body).answer → AreMessages (answer_message id m b)
sends_are id known r p m b node released well is here same =
    let to = goes_to id m.to (and_parts (is_node id m.to) (is_in m.log known.logs) here).0 in
    answers_sent id m b is.log (subst (λ o. MayAnswer id m.from o) (sym same) (message_handled {most = last_carried} (omega arith) p well id node r released m is to).answer)

pub asks_are : (p : Plain) (id l : ℕ) (flags : List Bool) → IsWell p → IsNode id → IsLog l → IsSet flags → AreMessages (posted (whos.Node id) l (refill_asks id (members flags) (log_of p l)))
asks_are p id l flags well node log set =
    posts_sent (whos.Node id) l (refill_asks id (members flags) (log_of p l)) log (refill_sent (log_of p l) (log_state last_carried p l well) id (members flags) node (members_nodes flags set))
