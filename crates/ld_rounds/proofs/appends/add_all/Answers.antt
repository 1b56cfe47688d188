use Rattle.std.proofs.Common.{◌≡◌, ◌∙◌, refl, ap, subst, inr, Ok, Err, Some, Bool, true, false, [], ◌∷◌, if◌then◌else◌, arith, inl, sym}
use Rattle.std.specs.Prelude.{MatchOption}
use Rattle.std.proofs.lemmas.Result.{err_from_is_err_and}
use Rattle.ld_machine.specs.Run.{state_after}
use Rattle.ld_rounds.specs.declared.ended.Ended.TheVariants as ends
use Rattle.ld_rounds.specs.Feeding.{upcoming, NextIs}
use Rattle.ld_rounds.specs.Acts.{driver}
use Rattle.ld_rounds.specs.Requests.{request_event}
use Rattle.ld_rounds.specs.declared.request.Request.{Request}
use Rattle.ld_rounds.specs.Rounds.{Splits, IsAsked, IsAsking, Adding, Adds, AddsUntil, IsDry, finds_full, taken_of, finds_final}
use Rattle.ld_rounds.proofs.Joining.{splits_join, requests_join, begun_requests, feeds_here, feeds_join, feeds_end, until_join, until_end, input_until, none_fed, one_fed, held_fed, one_until, feeds_until, room_more, full_last}
use Rattle.ld_rounds.proofs.Endings.{later_here, later_on, ending_since}
use Rattle.ld_rounds.proofs.Feeding.{input_unframed, partly, of_ending, input_stops, apart_on, same_here, same_on, append_since, of_input, next_behind, held_behind, over_now, over_later, never, next_stays, fed_stays}
use Rattle.ld_rounds.proofs.Going.{went_here, went_such}
use Rattle.ld_rounds.proofs.appends.add_all.Goals as goal

pub requests-init : goal.requests-init
requests-init g c = (
  λ own k first s far b h. let i = upcoming c.args.feed.now.held (g.P.Payloads.coming c.args.input.now) in
      went_here (driver c.args.name.now own) ⊥ k first b (Adding c.args.name.now k i i) (g.A.Actor.stands c.args.sequencer.now) (λ now. now ≡ far) s far c.args.queues.now (Some (g.O.Sink.written c.args.out.now)) ((tt, tt), feeds_here k i s) refl h,
  later_here _ _,
  omega arith,
  refl,
  c.if-feed.false,
  same_here _,
  refl,
  g.met.A.Actor.since_here c.args.sequencer.now,
  λ none ready. (refl, none),
)

pub returns-in_err-request-clause-held : goal.returns-in_err-request-clause-held
returns-in_err-request-clause-held g c own k first s far b h =
    let p = err_from_is_err_and c.from_residual.result c.from_residual.ensures.1 in
    let name = c.args.name.now in
    let i = upcoming c.args.feed.now.held (g.P.Payloads.coming c.args.input.now) in
    let j = upcoming c.requests.feed.held (g.P.Payloads.coming c.requests.input) in
    let e = c.in_err-request.field-0.0 in
    rw (p.1, p.2) (input_stops (driver c.args.name.now own) ⊥ k first b (Adding name k i j) (AddsUntil name k i) (g.A.Actor.stands c.requests.sequencer) (λ now. now ≡ far) s c.requests.queues (Some (g.O.Sink.written c.args.out.now)) (Some (g.O.Sink.written c.requests.out)) e (input_unframed _ _ _ e c.in_err-request.ensures.cause)
    (λ es x. (x.0.0, until_end k i j e s es x.1 (input_until k j _ e _ _ _ _ c.in_err-request.ensures.gives c.in_err-request.ensures.cause))) (c.requests.invariant.0 own k first s far b h))

pub returns-in_default-clause-held : goal.returns-in_default-clause-held
returns-in_default-clause-held g c own k first s far b h =
    let name = c.args.name.now in
    let i = upcoming c.args.feed.now.held (g.P.Payloads.coming c.args.input.now) in
    let j = upcoming c.requests.feed.held (g.P.Payloads.coming c.requests.input) in
    let m = upcoming c.next.new.self.held (g.P.Payloads.coming c.next.new.input) in
    let dry = IsDry c.next.new.self.is_over (g.P.Payloads.ready c.next.new.input) c.next.new.self.held (g.A.Appends.settled c.requests.sequencer) in
    let over = subst (λ o. MatchOption o (c.next.new.self.is_over ≡ true) (λ (x : Request). c.next.new.self.is_over ≡ c.requests.feed.is_over)) c.in_default.is c.in_ok-request.ensures.on in
    let w = c.requests.invariant.0 own k first s far b h in
    went_such (driver c.args.name.now own) ⊥ k first b ⊥ (Adding name k i j) (Adds name k dry i m) (g.A.Actor.stands c.requests.sequencer) (λ now. now ≡ far) (λ now. now ≡ far) s c.requests.queues (Some (g.O.Sink.written c.args.out.now)) (Some (g.O.Sink.written c.requests.out)) (λ x. x) (λ f t. t) w
    (λ es o x. ((x.0.0, inl (x.0.1, inl over)), feeds_end k i j m s es x.1 (none_fed k j m _ (subst (λ o. NextIs j m (Ok o)) c.in_default.is c.in_ok-request.ensures.gives))))

pub returns-in_err-add-clause-held : goal.returns-in_err-add-clause-held
returns-in_err-add-clause-held g c own k first s far b h =
    let p = err_from_is_err_and c.from_residual-in_err-add.result c.from_residual-in_err-add.ensures.1 in
    let w = c.requests.invariant.0 own k first s far b h in
    let name = c.args.name.now in
    let request = c.in-Some.request in
    let i = upcoming c.args.feed.now.held (g.P.Payloads.coming c.args.input.now) in
    let j = upcoming c.requests.feed.held (g.P.Payloads.coming c.requests.input) in
    let m = upcoming c.next.new.self.held (g.P.Payloads.coming c.next.new.input) in
    let e = c.in_err-add.field-0.0 in
    let one = IsAsked name request in
    rw (p.1, p.2) (apart_on (driver c.args.name.now own) ⊥ k first b {R = Bool} (Adding name k i j) one (Splits (Adding name k i j) one k) (λ e. IsAsking name request) (AddsUntil name k i) (g.A.Actor.stands c.requests.sequencer) (g.A.Actor.stands c.add.new.sequencer) s far c.requests.queues c.add.new.queues (Some (g.O.Sink.written c.args.out.now)) (Some (g.O.Sink.written c.requests.out)) (Some (g.O.Sink.written c.add.new.out)) (Err e)
    (splits_join k (Adding name k i j) one)
    (λ t es fs x y. (requests_join k name t es fs x.0.0 (begun_requests k name request (state_after k t es) fs y), until_join k i j e t es fs x.1 (one_until k j m name request e (state_after k t es) fs (subst (λ o. NextIs j m (Ok o)) c.in-Some.is c.in_ok-request.ensures.gives) (partly _ _ _ _ e c.in_err-add.ensures.cause) y))) w
    (c.in_err-add.ensures.held own k first w.moved.state w.far b w.moved.holds))

pub returns-then-branch-clause-held : goal.returns-then-branch-clause-held
returns-then-branch-clause-held g c own k first s far b h =
    let w = c.requests.invariant.0 own k first s far b h in
    let name = c.args.name.now in
    let request = c.in-Some.request in
    let i = upcoming c.args.feed.now.held (g.P.Payloads.coming c.args.input.now) in
    let j = upcoming c.requests.feed.held (g.P.Payloads.coming c.requests.input) in
    let coming = g.P.Payloads.coming c.next.new.input in
    let gives = subst (λ o. NextIs j (upcoming o coming) (Ok (Some request))) c.in_ok-request.ensures.none (subst (λ o. NextIs j (upcoming c.next.new.self.held coming) (Ok o)) c.in-Some.is c.in_ok-request.ensures.gives) in
    let dry = IsDry c.next.new.self.is_over (g.P.Payloads.ready c.next.new.input) (Some request) (g.A.Appends.settled c.add.new.sequencer) in
    apart_on (driver c.args.name.now own) ⊥ k first b {R = Bool} (Adding name k i j) (λ t es. IsAsked name request t es × ((taken_of k t es ≡ (if c.in_ok-add.field-0 then [] else request ∷ [])) × (c.in_ok-add.field-0 ≡ finds_full k t (request_event name request)) × (finds_final k t (request_event name request) ≡ false))) (Adds name k dry i (upcoming (Some request) coming)) (λ e. IsAsking name request) (AddsUntil name k i) (g.A.Actor.stands c.requests.sequencer) (g.A.Actor.stands c.add.new.sequencer) s far c.requests.queues c.add.new.queues (Some (g.O.Sink.written c.args.out.now)) (Some (g.O.Sink.written c.requests.out)) (Some (g.O.Sink.written c.add.new.out)) (Ok true)
    (λ t es fs x y. ((requests_join k name t es fs x.0.0 (begun_requests k name request (state_after k t es) fs (y.0.0, inr y.0.1)), full_last k dry (request_event name request) t es fs x.0.1 y.0.1 (sym y.1.1 ∙ c.if-branch.true)), feeds_join k i j (upcoming (Some request) coming) t es fs x.1 (held_fed k j coming request (state_after k t es) fs gives (y.1.0 ∙ ap (λ (x : Bool). if x then [] else request ∷ []) c.if-branch.true)))) tt w
    (c.in_ok-add.ensures.held own k first w.moved.state w.far b w.moved.holds)

-- a trim that has to wait is held
pub returns-then-has_to_wait-clause-held : goal.returns-then-has_to_wait-clause-held
returns-then-has_to_wait-clause-held g c own k first s far b h =
    let name = c.args.name.now in
    let request = c.in-Some.request in
    let i = upcoming c.args.feed.now.held (g.P.Payloads.coming c.args.input.now) in
    let j = upcoming c.requests.feed.held (g.P.Payloads.coming c.requests.input) in
    let coming = g.P.Payloads.coming c.next.new.input in
    let gives = subst (λ o. NextIs j (upcoming o coming) (Ok (Some request))) c.in_ok-request.ensures.none (subst (λ o. NextIs j (upcoming c.next.new.self.held coming) (Ok o)) c.in-Some.is c.in_ok-request.ensures.gives) in
    let dry = IsDry c.next.new.self.is_over (g.P.Payloads.ready c.next.new.input) (Some request) (g.A.Appends.settled c.requests.sequencer) in
    went_such (driver c.args.name.now own) ⊥ k first b ⊥ (Adding name k i j) (Adds name k dry i (upcoming (Some request) coming)) (g.A.Actor.stands c.requests.sequencer) (λ now. now ≡ far) (λ now. now ≡ far) s c.requests.queues (Some (g.O.Sink.written c.args.out.now)) (Some (g.O.Sink.written c.requests.out)) (λ x. x) (λ f t. t) (c.requests.invariant.0 own k first s far b h)
    (λ es o x. ((x.0.0, inl (x.0.1, inr (inr (sym c.has_to_wait.ensures ∙ c.if-has_to_wait.true)))), fed_stays k i j (upcoming (Some request) coming) s es x.1 (next_stays j coming (Some request) gives)))

pub returns-then-has_to_wait-clause-behind : goal.returns-then-has_to_wait-clause-behind
returns-then-has_to_wait-clause-behind g c =
    let coming = g.P.Payloads.coming c.next.new.input in
    let request = c.in-Some.request in
    let i = upcoming c.args.feed.now.held (g.P.Payloads.coming c.args.input.now) in
    let j = upcoming c.requests.feed.held (g.P.Payloads.coming c.requests.input) in
    let gives = subst (λ o. NextIs j (upcoming o coming) (Ok (Some request))) c.in_ok-request.ensures.none (subst (λ o. NextIs j (upcoming c.next.new.self.held coming) (Ok o)) c.in-Some.is c.in_ok-request.ensures.gives) in
    held_behind i j coming request c.requests.invariant.5 gives

pub returns-then-has_to_wait-clause-over : goal.returns-then-has_to_wait-clause-over
returns-then-has_to_wait-clause-over g c origin p q =
    over_later origin _ _ (subst (λ o. MatchOption o (c.next.new.self.is_over ≡ true) (λ (x : Request). c.next.new.self.is_over ≡ c.requests.feed.is_over)) c.in-Some.is c.in_ok-request.ensures.on ∙ c.requests.invariant.4)

pub returns-then-has_to_wait-clause-waits : goal.returns-then-has_to_wait-clause-waits
returns-then-has_to_wait-clause-waits g c none ready = absurd (let h = c.requests.invariant.8 none ready in never c.is_ready.result c.if-not-is_ready.false (c.is_ready.ensures.unready h.1 (ap (λ x. g.P.Payloads.ready x) h.0 ∙ ready)))

pub add-requires-clause-now : goal.add-requires-clause-now
add-requires-clause-now g c = sym c.has_to_wait.ensures ∙ c.if-has_to_wait.false

pub requests-preserved : goal.requests-preserved
requests-preserved g c = (
  λ own k first s far b h. let w = c.requests.invariant.0 own k first s far b h in
      let name = c.args.name.now in
      let request = c.in-Some.request in
      let i = upcoming c.args.feed.now.held (g.P.Payloads.coming c.args.input.now) in
      let j = upcoming c.requests.feed.held (g.P.Payloads.coming c.requests.input) in
      let m = upcoming c.next.new.self.held (g.P.Payloads.coming c.next.new.input) in
      let gives = subst (λ o. NextIs j m (Ok o)) c.in-Some.is c.in_ok-request.ensures.gives in
      apart_on (driver c.args.name.now own) ⊥ k first b {R = Bool} (Adding name k i j) (λ t es. IsAsked name request t es × ((taken_of k t es ≡ (if c.in_ok-add.field-0 then [] else request ∷ [])) × (c.in_ok-add.field-0 ≡ finds_full k t (request_event name request)) × (finds_final k t (request_event name request) ≡ false))) (Adding name k i m) (λ e. IsAsking name request) (AddsUntil name k i) (g.A.Actor.stands c.requests.sequencer) (g.A.Actor.stands c.add.new.sequencer) s far c.requests.queues c.add.new.queues (Some (g.O.Sink.written c.args.out.now)) (Some (g.O.Sink.written c.requests.out)) (Some (g.O.Sink.written c.add.new.out)) (Ok false)
      (λ t es fs x y. ((requests_join k name t es fs x.0.0 (begun_requests k name request (state_after k t es) fs (y.0.0, inr y.0.1)), room_more k (request_event name request) t es fs x.0.1 y.0.1 (sym y.1.1 ∙ c.if-branch.false) y.1.2), feeds_join k i j m t es fs x.1 (one_fed k j m request (state_after k t es) fs gives (y.1.0 ∙ ap (λ (x : Bool). if x then [] else request ∷ []) c.if-branch.false)))) tt w
      (c.in_ok-add.ensures.held own k first w.moved.state w.far b w.moved.holds),
  later_on _ _ _ _ _ _ c.requests.invariant.1 c.in_ok-add.ensures.later,
  (let a = c.requests.invariant.2 in let b = c.in_ok-request.ensures.later in omega (arith, a, b)),
  c.in_ok-request.ensures.itself ∙ c.requests.invariant.3,
  subst (λ o. MatchOption o (c.next.new.self.is_over ≡ true) (λ (x : Request). c.next.new.self.is_over ≡ c.requests.feed.is_over)) c.in-Some.is c.in_ok-request.ensures.on ∙ c.requests.invariant.4,
  same_on _ _ _ c.requests.invariant.5 (next_behind _ _ _ c.in_ok-request.ensures.gives),
  c.in_ok-add.ensures.itself ∙ c.requests.invariant.6,
  g.met.A.Actor.since_on c.args.sequencer.now c.requests.sequencer c.add.new.sequencer c.requests.invariant.7 c.in_ok-add.ensures.since,
  λ none ready. absurd (let h = c.requests.invariant.8 none ready in never c.is_ready.result c.if-not-is_ready.false (c.is_ready.ensures.unready h.1 (ap (λ x. g.P.Payloads.ready x) h.0 ∙ ready))),
)

pub returns-in_err-request-clause-cause : goal.returns-in_err-request-clause-cause
returns-in_err-request-clause-cause g c =
    let p = err_from_is_err_and c.from_residual.result c.from_residual.ensures.1 in
    rw (p.1, p.2) (append_since _ _ _ _ _ _ _ _ _ _ _ c.in_err-request.field-0.0 c.requests.invariant.5 c.requests.invariant.2 c.requests.invariant.1 (of_input _ _ _ _ _ _ _ c.in_err-request.field-0.0 c.in_err-request.ensures.cause))

pub returns-in_err-add-clause-cause : goal.returns-in_err-add-clause-cause
returns-in_err-add-clause-cause g c =
    let p = err_from_is_err_and c.from_residual-in_err-add.result c.from_residual-in_err-add.ensures.1 in
    rw (p.1, p.2) (of_ending _ _ _ _ _ _ _ c.in_err-add.field-0.0 (ending_since _ _ _ _ _ _ c.in_err-add.field-0.0 c.requests.invariant.1 c.in_err-add.ensures.cause))

pub returns-in_err-add-clause-later : goal.returns-in_err-add-clause-later
returns-in_err-add-clause-later g c = later_on _ _ _ _ _ _ c.requests.invariant.1 c.in_err-add.ensures.later

pub returns-then-branch-clause-later : goal.returns-then-branch-clause-later
returns-then-branch-clause-later g c = later_on _ _ _ _ _ _ c.requests.invariant.1 c.in_ok-add.ensures.later

pub returns-then-feed-clause-held : goal.returns-then-feed-clause-held
returns-then-feed-clause-held g c own k first s far b h =
    let i = upcoming c.args.feed.now.held (g.P.Payloads.coming c.args.input.now) in
    went_here (driver c.args.name.now own) ⊥ k first b (Adds c.args.name.now k (IsDry c.args.feed.now.is_over (g.P.Payloads.ready c.args.input.now) c.args.feed.now.held (g.A.Appends.settled c.args.sequencer.now)) i i) (g.A.Actor.stands c.args.sequencer.now) (λ now. now ≡ far) s far c.args.queues.now (Some (g.O.Sink.written c.args.out.now)) ((tt, inl (tt, inl c.if-feed.true)), feeds_here k i s) refl h

pub returns-then-feed-clause-behind : goal.returns-then-feed-clause-behind
returns-then-feed-clause-behind g c = same_here _

pub returns-in_default-clause-behind : goal.returns-in_default-clause-behind
returns-in_default-clause-behind g c = same_on _ _ _ c.requests.invariant.5 (next_behind _ _ _ c.in_ok-request.ensures.gives)

pub returns-in_default-clause-over : goal.returns-in_default-clause-over
returns-in_default-clause-over g c origin p q =
    let i = upcoming c.args.feed.now.held (g.P.Payloads.coming c.args.input.now) in
    let j = upcoming c.requests.feed.held (g.P.Payloads.coming c.requests.input) in
    let m = upcoming c.next.new.self.held (g.P.Payloads.coming c.next.new.input) in
    over_now origin i j m c.next.new.self.is_over p c.requests.invariant.5 (subst (λ o. NextIs j m (Ok o)) c.in_default.is c.in_ok-request.ensures.gives)

pub returns-then-branch-clause-behind : goal.returns-then-branch-clause-behind
returns-then-branch-clause-behind g c =
    let coming = g.P.Payloads.coming c.next.new.input in
    let request = c.in-Some.request in
    let i = upcoming c.args.feed.now.held (g.P.Payloads.coming c.args.input.now) in
    let j = upcoming c.requests.feed.held (g.P.Payloads.coming c.requests.input) in
    let gives = subst (λ o. NextIs j (upcoming o coming) (Ok (Some request))) c.in_ok-request.ensures.none (subst (λ o. NextIs j (upcoming c.next.new.self.held coming) (Ok o)) c.in-Some.is c.in_ok-request.ensures.gives) in
    held_behind i j coming request c.requests.invariant.5 gives

pub returns-then-branch-clause-over : goal.returns-then-branch-clause-over
returns-then-branch-clause-over g c origin p q =
    over_later origin _ _ (subst (λ o. MatchOption o (c.next.new.self.is_over ≡ true) (λ (x : Request). c.next.new.self.is_over ≡ c.requests.feed.is_over)) c.in-Some.is c.in_ok-request.ensures.on ∙ c.requests.invariant.4)

pub returns-in_err-request-clause-over : goal.returns-in_err-request-clause-over
returns-in_err-request-clause-over g c origin p q = over_later origin _ _ (c.in_err-request.ensures.stopped ∙ c.requests.invariant.4)

pub returns-in_err-add-clause-over : goal.returns-in_err-add-clause-over
returns-in_err-add-clause-over g c origin p q =
    over_later origin _ _ (subst (λ o. MatchOption o (c.next.new.self.is_over ≡ true) (λ (x : Request). c.next.new.self.is_over ≡ c.requests.feed.is_over)) c.in-Some.is c.in_ok-request.ensures.on ∙ c.requests.invariant.4)

pub returns-clause-over : goal.returns-clause-over
returns-clause-over g c origin p q = over_later origin _ _ c.requests.invariant.4

pub returns-then-feed-clause-since : goal.returns-then-feed-clause-since
returns-then-feed-clause-since g c = g.met.A.Actor.since_here c.args.sequencer.now

pub returns-then-branch-clause-since : goal.returns-then-branch-clause-since
returns-then-branch-clause-since g c = g.met.A.Actor.since_on c.args.sequencer.now c.requests.sequencer c.add.new.sequencer c.requests.invariant.7 c.in_ok-add.ensures.since

pub returns-in_err-add-clause-since : goal.returns-in_err-add-clause-since
returns-in_err-add-clause-since g c = g.met.A.Actor.since_on c.args.sequencer.now c.requests.sequencer c.add.new.sequencer c.requests.invariant.7 c.in_err-add.ensures.since

pub returns-in_err-add-clause-off : goal.returns-in_err-add-clause-off
returns-in_err-add-clause-off g c off =
    let p = err_from_is_err_and c.from_residual-in_err-add.result c.from_residual-in_err-add.ensures.1 in
    rw (p.1, p.2) (c.in_err-add.ensures.off off)

pub returns-then-not-is_ready-clause-held : goal.returns-then-not-is_ready-clause-held
returns-then-not-is_ready-clause-held g c own k first s far b h =
    let name = c.args.name.now in
    let i = upcoming c.args.feed.now.held (g.P.Payloads.coming c.args.input.now) in
    let j = upcoming c.requests.feed.held (g.P.Payloads.coming c.requests.input) in
    let dry = IsDry c.requests.feed.is_over (g.P.Payloads.ready c.requests.input) c.requests.feed.held (g.A.Appends.settled c.requests.sequencer) in
    went_such (driver c.args.name.now own) ⊥ k first b ⊥ (Adding name k i j) (Adds name k dry i j) (g.A.Actor.stands c.requests.sequencer) (λ now. now ≡ far) (λ now. now ≡ far) s c.requests.queues (Some (g.O.Sink.written c.args.out.now)) (Some (g.O.Sink.written c.requests.out)) (λ x. x) (λ f t. t) (c.requests.invariant.0 own k first s far b h)
    (λ es o x. ((x.0.0, inl (x.0.1, inr (inl (λ ready. never c.is_ready.result (c.is_ready.ensures.ready ready) c.if-not-is_ready.true)))), x.1))

pub returns-then-not-is_ready-clause-over : goal.returns-then-not-is_ready-clause-over
returns-then-not-is_ready-clause-over g c origin p q = over_later origin _ _ c.requests.invariant.4

pub returns-then-not-is_ready-clause-waits : goal.returns-then-not-is_ready-clause-waits
returns-then-not-is_ready-clause-waits g c none ready = (c.requests.invariant.8 none ready).0

pub returns-clause-held : goal.returns-clause-held
returns-clause-held g c own k first s far b h =
    let name = c.args.name.now in
    let i = upcoming c.args.feed.now.held (g.P.Payloads.coming c.args.input.now) in
    let j = upcoming c.requests.feed.held (g.P.Payloads.coming c.requests.input) in
    input_stops (driver c.args.name.now own) ⊥ k first b (Adding name k i j) (AddsUntil name k i) (g.A.Actor.stands c.requests.sequencer) (λ now. now ≡ far) s c.requests.queues (Some (g.O.Sink.written c.args.out.now)) (Some (g.O.Sink.written c.requests.out)) ends.NoMemory tt
    (λ es x. (x.0.0, feeds_until k i j ends.NoMemory s es tt x.1)) (c.requests.invariant.0 own k first s far b h)

pub returns-clause-waits : goal.returns-clause-waits
returns-clause-waits g c none ready = (c.requests.invariant.8 none ready).0

pub returns-in_err-request-clause-waits : goal.returns-in_err-request-clause-waits
returns-in_err-request-clause-waits g c none ready = absurd (let h = c.requests.invariant.8 none ready in never c.is_ready.result c.if-not-is_ready.false (c.is_ready.ensures.unready h.1 (ap (λ x. g.P.Payloads.ready x) h.0 ∙ ready)))

pub returns-in_default-clause-waits : goal.returns-in_default-clause-waits
returns-in_default-clause-waits g c none ready = absurd (let h = c.requests.invariant.8 none ready in never c.is_ready.result c.if-not-is_ready.false (c.is_ready.ensures.unready h.1 (ap (λ x. g.P.Payloads.ready x) h.0 ∙ ready)))

pub returns-in_err-add-clause-waits : goal.returns-in_err-add-clause-waits
returns-in_err-add-clause-waits g c none ready = absurd (let h = c.requests.invariant.8 none ready in never c.is_ready.result c.if-not-is_ready.false (c.is_ready.ensures.unready h.1 (ap (λ x. g.P.Payloads.ready x) h.0 ∙ ready)))

pub returns-then-branch-clause-waits : goal.returns-then-branch-clause-waits
returns-then-branch-clause-waits g c none ready = absurd (let h = c.requests.invariant.8 none ready in never c.is_ready.result c.if-not-is_ready.false (c.is_ready.ensures.unready h.1 (ap (λ x. g.P.Payloads.ready x) h.0 ∙ ready)))
