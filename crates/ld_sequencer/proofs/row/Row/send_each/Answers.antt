use Rattle.std.proofs.Common.{◌≡◌, ◌+◌, ◌++◌, ◌∷◌, [], refl, ap, sym, subst, ◌∙◌, arith}
use Rattle.ld_msg.specs.declared.msg.Who.TheVariants.{Sequencer}
use Rattle.ld_msg.specs.Network.{posted}
use Rattle.ld_msg.specs.Sequencer.{append_stores}
use Rattle.ld_window.specs.Flags.{leading}
use Rattle.ld_lsn.specs.Number.{numbered}
use Rattle.ld_sequencer.specs.Appends.{carried, numbered_from}
use Rattle.ld_sequencer.proofs.Marks.{waiting_get}
use Rattle.ld_recovery.proofs.Begins.{begins_itself, begins_on, begins_then}
use Rattle.ld_sequencer.proofs.Begins.{on_err}
use Rattle.ld_sequencer.proofs.Rounds.{stores_from, round_one, at_index, none_left}
use Rattle.ld_sequencer.proofs.row.Row.send_each.Goals as goal

pub waiting-init : goal.waiting-init
waiting-init c = record { left = refl; begun = begins_itself c.args.out.now }

pub send-requires : goal.send-requires
send-requires c =
    let i = c.self.inside in
    (waiting_get i.spec.r i.waiting.items c.waiting.place c.index.result.now c.self.invariant.waiting (at_index i.waiting.items c.waiting.place c.index.result.now (let a = c.len-place-end.ensures in omega arith) c.index.ensures)).factor

pub waiting-preserved : goal.waiting-preserved
waiting-preserved c =
    let i = c.self.inside in
    let who = Sequencer i.epoch in
    let w = c.index.result.now in
    let there = at_index i.waiting.items c.waiting.place w (let a = c.len-place-end.ensures in omega arith) c.index.ensures in
    let one : c.send.new.out ≡ c.waiting.out ++ posted who i.spec.log (append_stores i.spec c.args.lost.now c.lng-lng.result ((c.value-first.result + c.waiting.place, w.append) ∷ [])) =
    c.in_ok-send.ensures.sent c.args.lost.now c.to_set.ensures ∙ ap (λ n. c.waiting.out ++ posted who i.spec.log (append_stores i.spec c.args.lost.now c.lng-lng.result ((n, w.append) ∷ []))) c.from_u64-number.ensures in
    record {
      left = ap (λ o. o ++ stores_from who i.spec.log i.spec c.args.lost.now c.lng-lng.result c.value-first.result (c.waiting.place + 1) i.waiting.items) one
          ∙ (round_one who i.spec.log i.spec c.args.lost.now c.lng-lng.result c.value-first.result c.waiting.place i.waiting.items w c.waiting.out there ∙ c.waiting.invariant.left);
      begun = begins_on c.args.out.now c.waiting.out _ c.send.new.out one c.waiting.invariant.begun;
    }

pub returns-clause-sent : goal.returns-clause-sent
returns-clause-sent c =
    let i = c.self.inside in
    let who = Sequencer i.epoch in
    let e = c.value-first.ensures in
    let n = c.new.ensures in
    let g = c.lng-lng.ensures.value in
    let first : c.value-first.result + 0 ≡ numbered i.epoch (leading i.window + 1) = omega arith in
    let all : c.waiting.out ≡ c.args.out.now ++ stores_from who i.spec.log i.spec c.args.lost.now c.lng-lng.result c.value-first.result 0 i.waiting.items =
    sym (none_left who i.spec.log i.spec c.args.lost.now c.lng-lng.result c.value-first.result c.waiting.place i.waiting.items c.waiting.out (let a = c.len-place-end.ensures in omega arith)) ∙ c.waiting.invariant.left in
    subst (λ r. c.waiting.out ≡ c.args.out.now ++ posted (Sequencer r.epoch) r.spec.log (append_stores r.spec c.args.lost.now r.lng r.appends)) c.self.view_is
    (all ∙ ap (λ m. c.args.out.now ++ posted who i.spec.log (append_stores i.spec c.args.lost.now c.lng-lng.result (numbered_from m (carried i.waiting.items)))) first
    ∙ ap (λ k. c.args.out.now ++ posted who i.spec.log (append_stores i.spec c.args.lost.now k (numbered_from (numbered i.epoch (leading i.window + 1)) (carried i.waiting.items)))) g)

pub returns-in_err-send-clause-begins : goal.returns-in_err-send-clause-begins
returns-in_err-send-clause-begins c = on_err c.from_residual.result (begins_then c.args.out.now c.waiting.out c.send.new.out c.in_err-send.ensures.begins c.waiting.invariant.begun)
