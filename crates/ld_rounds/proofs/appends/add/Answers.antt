use Rattle.std.proofs.Common.{◌≡◌, ℕ, List, refl, inl, inr, Err, Ok, [], ◌∷◌, if◌then◌else◌, Some, ◌∙◌, ap, sym, subst, true, false}
use Rattle.std.specs.Prelude.{IfOk}
use Rattle.std.proofs.lemmas.Result.{err_from_is_err_and}
use Rattle.ld_rounds.specs.declared.ended.Ended.{Ended}
use Rattle.ld_rounds.specs.Ends.{tells_by, is_final}
use Rattle.ld_rounds.specs.Acts.{driver}
use Rattle.ld_rounds.specs.Requests.{request_event, settled_at}
use Rattle.ld_rounds.specs.Rounds.{IsAsked, IsAsking, taken_of, tells_full, finds_full, finds_final}
use Rattle.ld_rounds.proofs.Joining.{comes_so, takes_by}
use Rattle.ld_rounds.proofs.Driving.{acted_on}
use Rattle.ld_rounds.proofs.Steps.{request_is, request_driven, request_bound}
use Rattle.ld_rounds.proofs.Going.{unframed, stopped_here, goes_told, went_such}
use Rattle.ld_rounds.proofs.appends.add.Goals as goal

pub returns-in_default-clause-held : goal.returns-in_default-clause-held
returns-in_default-clause-held g c own k first s far b h =
    let name = c.args.name.now in
    let request = c.args.request.now in
    let old = c.args.sequencer.now in
    let may = comes_so name request s (g.A.Appends.settled old) (subst (λ (n : List ℕ). g.A.Appends.settled old ≡ true → settled_at n s ≡ true) (sym c.requires.named) (g.met.A.Appends.settled_there old k s h.actor)) c.requires.now in
    stopped_here (driver name own) ⊥ k first b (IsAsking name request) s (Some (g.O.Sink.written c.args.out.now)) (may, inl refl)

pub returns-in_err-tell-clause-held : goal.returns-in_err-tell-clause-held
returns-in_err-tell-clause-held g c own k first s far b h =
    let p = err_from_is_err_and c.from_residual.result c.from_residual.ensures.1 in
    let name = c.args.name.now in
    let request = c.args.request.now in
    let old = c.args.sequencer.now in
    let new = c.append.new.self in
    let heard = c.in-Ok.appended.heard in
    let one = IsAsked name request in
    let may = comes_so name request s (g.A.Appends.settled old) (subst (λ (n : List ℕ). g.A.Appends.settled old ≡ true → settled_at n s ≡ true) (sym c.requires.named) (g.met.A.Appends.settled_there old k s h.actor)) c.requires.now in
    let moved = acted_on (driver name own) ⊥ k first b (g.A.Actor.stands old) (g.met.A.Actor.stands_apart old) one (g.A.Actor.stands new) (g.met.A.Actor.stands_apart new) s far c.args.queues.now (request_event name request) heard.lines.items heard.sends (request_driven (driver name own) ⊥ s request) (may, refl) (request_bound name request) (request_is k s name request) h
    (c.in-Ok.ensures.appended k s b h.sound h.actor) in
    rw (p.1, p.2) (goes_told (driver name own) ⊥ k first b one (λ e. IsAsking name request) (g.A.Actor.stands new) s far c.args.queues.now c.tell.new.queues (Some (g.O.Sink.written c.args.out.now)) (Some (g.O.Sink.written c.tell.new.out)) heard moved (λ e es x. (x.0, inr x.1)) (Err c.in_err-tell.field-0.0) (unframed heard.lines.items heard.end c.in-Ok.ensures.said) c.in_err-tell.ensures.told)

pub returns-clause-held : goal.returns-clause-held
returns-clause-held g c own k first s far b h =
    let name = c.args.name.now in
    let request = c.args.request.now in
    let old = c.args.sequencer.now in
    let new = c.append.new.self in
    let heard = c.in-Ok.appended.heard in
    let full = c.in-Ok.appended.is_full in
    let one = IsAsked name request in
    let acted = c.in-Ok.ensures.appended k s b h.sound h.actor in
    let may = comes_so name request s (g.A.Appends.settled old) (subst (λ (n : List ℕ). g.A.Appends.settled old ≡ true → settled_at n s ≡ true) (sym c.requires.named) (g.met.A.Appends.settled_there old k s h.actor)) c.requires.now in
    let moved = acted_on (driver name own) ⊥ k first b (g.A.Actor.stands old) (g.met.A.Actor.stands_apart old) one (g.A.Actor.stands new) (g.met.A.Actor.stands_apart new) s far c.args.queues.now (request_event name request) heard.lines.items heard.sends (request_driven (driver name own) ⊥ s request) (may, refl) (request_bound name request) (request_is k s name request) h acted in
    let went = goes_told (driver name own) ⊥ k first b one (λ e. IsAsking name request) (g.A.Actor.stands new) s far c.args.queues.now c.tell.new.queues (Some (g.O.Sink.written c.args.out.now)) (Some (g.O.Sink.written c.tell.new.out)) heard moved (λ e es x. (x.0, inr x.1)) (Ok tt) (unframed heard.lines.items heard.end c.in-Ok.ensures.said) c.in_ok-tell.ensures.told in
    went_such (driver name own) ⊥ k first b ⊥ one (λ t es. one t es × IfOk {E = Ended} (Ok full) (λ yes. (taken_of k t es ≡ (if yes then [] else request ∷ [])) × (yes ≡ finds_full k t (request_event name request)) × (finds_final k t (request_event name request) ≡ false))) (g.A.Actor.stands new) (λ now. now ≡ far) (λ now. now ≡ far) s c.tell.new.queues (Some (g.O.Sink.written c.args.out.now)) (Some (g.O.Sink.written c.tell.new.out)) (λ x. x) (λ f t. t) went
    (λ es o x. (x, (takes_by k name request s es full heard.lines.items x.1 c.in-Ok.ensures.full acted.lines, c.in-Ok.ensures.full ∙ ap tells_full acted.lines, sym (ap (tells_by is_final) acted.lines) ∙ c.in-Ok.ensures.ends c.in_ok-tell.ensures.told.end_is)))
