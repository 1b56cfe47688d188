-- The appends of a row are in their bounds, and what is sent for them is messages.
use Rattle.std.proofs.Common.{◌≡◌, ◌≤◌, ℕ, ◌+◌, ◌-◌, ◌^◌, Bool, List, [], ◌∷◌, ◌++◌, length, sym, subst, arith}
use Rattle.std.specs.List.{AllByRecursion}
use Rattle.ld_ids.specs.declared.set.Spec.{Spec}
use Rattle.ld_lsn.specs.Number.{numbered}
use Rattle.ld_window.specs.Flags.{leading}
use Rattle.ld_appender.specs.Waiting.{Waiting}
use Rattle.ld_sequencer.specs.Appends.{Row, AreWaiting, IsInStep, carried, numbered_from, shown, next_place}
use Rattle.ld_sequencer.proofs.Marks.{waits}
use Rattle.ld_node_bounds.proofs.Numbers.{epoch_numbered, esn_numbered}
use Rattle.ld_node_bounds.specs.Messages.{AreMessages}
use Rattle.ld_node_bounds.proofs.Alls.{all-append}
use Rattle.ld_node_bounds.proofs.Members.{members_nodes}
use Rattle.ld_ids.specs.Id.{IsNode, IsLog}
use Rattle.ld_ids.specs.Set.{IsSet}
use Rattle.ld_ids.specs.Choice.{nodes_of}
use Rattle.ld_msg.specs.declared.msg.Msg.{Msg}
use Rattle.ld_msg.specs.declared.msg.Who.TheVariants as whos
use Rattle.ld_msg.specs.Bounds.{IsLng, IsEpoch, IsMessage}
use Rattle.ld_msg.specs.Choice.{choice}
use Rattle.ld_msg.specs.Network.{posted}
use Rattle.ld_msg.specs.Sequencer.{append_stores, first_stores, fresh_append, payload_limit}
use Rattle.ld_sequencer_bounds.specs.Sequencers.{IsAppend}
use Rattle.ld_sequencer_bounds.proofs.Posts.{sent_behind, unsent_behind, choice_nodes}
use Rattle.ld_sequencer_bounds.proofs.Sends.{append_sent, appends_sent}
use Rattle.ld_sequencer.specs.Own.{Own, spec_of, sequencer_of, sent_by}

appends_from : (r epoch place : ℕ) (ws : List Waiting) → 1 ≤ place → place + length ws ≤ 2 ^ 32 - 1 → AreWaiting r ws → AllByRecursion (IsAppend epoch) (numbered_from (numbered epoch place) (carried ws))
appends_from r epoch place [] one most h = tt
appends_from r epoch place (w ∷ ws) one most h =
    let z = esn_numbered epoch place (omega arith) in
    let n : numbered epoch (place + 1) ≡ numbered epoch place + 1 = omega arith in (
      record { epoch_is = epoch_numbered epoch place (omega arith); from_one = omega arith; place = omega arith; short = h.0.short },
      subst (λ (k : ℕ). AllByRecursion (IsAppend epoch) (numbered_from k (carried ws))) n (appends_from r epoch (place + 1) ws (omega arith) (omega arith) h.1),
    )

pub appends_are : (s : Spec) (epoch : ℕ) (flags : List Bool) (ws : List Waiting) → IsInStep s.r flags ws → AllByRecursion (IsAppend epoch) (shown s epoch flags ws).appends
appends_are s epoch flags ws h = let a = waits s.r flags ws h in let b = h.bound in appends_from s.r epoch (leading flags + 1) ws (omega arith) (omega arith) h.waiting

-- ---- what is sent ----

good_is : (s : Spec) (epoch : ℕ) (flags : List Bool) (ws : List Waiting) → IsInStep s.r flags ws → IsLng (shown s epoch flags ws).lng
good_is s epoch flags ws h = let a = waits s.r flags ws h in let b = h.bound in omega arith

pub row_messages : (spec : Spec) (epoch : ℕ) (flags : List Bool) (ws : List Waiting) (r : Row) (lost : List ℕ) (old new : List Msg) → shown spec epoch flags ws ≡ r → IsInStep spec.r flags ws → new ≡ old ++ posted (whos.Sequencer r.epoch) r.spec.log (append_stores r.spec lost r.lng r.appends)
    → IsLog spec.log → IsSet spec.set → IsEpoch r.epoch → AreMessages old → AreMessages new
row_messages spec epoch flags ws r lost old new v h s l f e a =
    sent_behind r.epoch r.spec.log (append_stores r.spec lost r.lng r.appends) old new (subst (λ (x : Row). IsLog x.spec.log) v l)
    (appends_sent r.epoch e r.spec lost r.lng r.appends (subst (λ (x : Row). IsLng x.lng) v (good_is spec epoch flags ws h)) (subst (λ (x : Row). AllByRecursion IsNode (nodes_of x.spec)) v (members_nodes spec.set f)) (subst (λ (x : Row). AllByRecursion (IsAppend x.epoch) x.appends) v (appends_are spec epoch flags ws h))) s a

pub append_messages : (o : Own) (payload : List ℕ) (old new : List Msg) → new ≡ old ++ sent_by o (first_stores (sequencer_of o) payload) → next_place o.row ≤ 2 ^ 32 - 2 → length payload ≤ payload_limit
    → IsLog (spec_of o).log → IsSet (spec_of o).set → IsEpoch (sequencer_of o).epoch → AreMessages old → AreMessages new
append_messages o payload old new s p q l f e a =
    let n : ℕ = numbered o.row.epoch (next_place o.row) in
    let z = esn_numbered o.row.epoch (next_place o.row) (omega (arith, p)) in
    sent_behind o.row.epoch o.row.spec.log (first_stores (sequencer_of o) payload) old new l
    (append_sent o.row.epoch e o.row.lng (omega (arith, p)) (n, fresh_append payload) (choice (spec_of o) o.lost n 0) (record { epoch_is = epoch_numbered o.row.epoch (next_place o.row) (omega (arith, p)); from_one = omega arith; place = omega (arith, z, p); short = q })
    (choice_nodes (spec_of o) o.lost n 0 (members_nodes (spec_of o).set f))) s a

pub together : (old asks new : List Msg) → new ≡ old ++ asks → AreMessages asks → AreMessages old → AreMessages new
together old asks new s b a = subst AreMessages (sym s) (all-append IsMessage old asks a b)

pub none_messages : (ms : List Msg) → ms ≡ [] → AreMessages ms
none_messages ms e = subst AreMessages (sym e) tt

pub ruleset message_rules = (unsent_behind, row_messages, append_messages, together, none_messages)
