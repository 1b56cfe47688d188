-- After a calm each log is served: what its last sequencer waited for is settled, and each of its readers is finished, or past what is released.
use Rattle.std.proofs.Common.{◌≡◌, ◌∙◌, ◌⊎◌, ◌<◌, ℕ, inl, inr, sym, subst, true, List, [], Some, arith}
use Rattle.std.proofs.lemmas.Bool.{cases_Bool, ltb-false}
use Rattle.ld_table.specs.Named.{find_named}
use Rattle.ld_config.specs.declared.config.Config.{Config}
use Rattle.ld_config.specs.Bounds.{IsInBounds}
use Rattle.ld_schedule.specs.declared.event.Event.TheVariants as events
use Rattle.ld_msg.specs.Reader.{Reader, is_finished, last_round}
use Rattle.ld_machine.specs.Config.{has_log}
use Rattle.ld_machine.specs.State.{State}
use Rattle.ld_machine.specs.World.{begin}
use Rattle.ld_machine.specs.Run.{world_after}
use Rattle.ld_machine.specs.Calm.{Move, Takes, Calms, Left, calms, calm_fuel, all_left, last_of, readers_of}
use Rattle.ld_calm.proofs.InRun.{calm_ends_after}
use Rattle.ld_served.specs.Served.{AllWell, NoLimit, IsServed, CalmServes, CalmServesAfter, released_by}
use Rattle.ld_served.proofs.Phases.{Parts, at_last}
use Rattle.ld_served.proofs.Last.{LastOf, last_is}
use Rattle.ld_served.proofs.Kept.{after_events, unlimited}
use Rattle.ld_served.proofs.Ready.{Ready, ready_delivered, ready_ticked, ready_polled, ready_announced, ready_gives, each_step, has_turn}
use Rattle.ld_served.proofs.Settles.{calm_reaches, settled_after}
use Rattle.ld_served.proofs.Readers.{InCalm, in_calm_on, in_calm_first, readers_here, GoesOn, AllGoOn, all_stay, delivery_goes, tick_goes, poll_goes, announcement_goes}
use Rattle.ld_served.proofs.Turns.{Lasting, Over, finished, in_last, past, Turns, turns_begin, turns_parts, turns_over}

-- behind the log's part it is ready
lasting : (c : Config) → IsInBounds c → (l : ℕ) → has_log c l ≡ true → Lasting c l (Ready c l)
lasting c b l log = record {
  good = λ s B. B.good;
  delivers = λ s i B u. (let z = ready_delivered c b l s B i u in (z.ready, z.released));
  ticks = λ s n k B u. (let z = ready_ticked c b l s B n k u in (z.ready, z.released));
  polls = λ s name B. (let z = ready_polled c b l s B name in (z.ready, z.released));
  announces = λ s k q e g B. (let z = ready_announced c b l s B k q e g in (z.ready, z.released));
  gives = λ s d B lg name q M low still H v. ready_gives c b s d (subst (λ k. has_log c k ≡ true) (sym lg) log) (subst (λ k. Ready c k s) (sym lg) B) name q (subst (λ k. LastOf s.sequencers k name q) (sym lg) M) low still H.sure v;
}

-- readers go on and on
goes_then : (d e f : Reader) → GoesOn d e → GoesOn e f → GoesOn d f
goes_then d e f G H = record { log = H.log ∙ G.log; number = H.number ∙ G.number; until = H.until ∙ G.until; next = (let a = G.next in let b = H.next in omega arith); round = (let a = G.round in let b = H.round in omega arith) }

all_then : (ds es fs : List (List ℕ × Reader)) → AllGoOn ds es → AllGoOn es fs → AllGoOn ds fs
all_then ds es fs G H name f i = let y = H name f i in let z = G name y.0 y.1 in (z.0, z.1, goes_then z.0 y.0 f z.2 y.2)

module _ (c : Config) (ms : List Move) (b : IsInBounds c) (A : AllWell c (world_after c (begin c) ms).state) (U : NoLimit (calms c (world_after c (begin c) ms).state)) where
  abbrev s : State
  s = (world_after c (begin c) ms).state

  -- all readers there are were there before the calm
  abbrev Always : State → Type 0
  Always t = InCalm c t × AllGoOn s.readers t.readers

  always : Parts c (λ t ps. Always t)
  always = each_step c Always
      (λ t i K. (in_calm_on c b t (Takes (events.Deliver i)) K.0, all_then s.readers t.readers _ K.1 (delivery_goes c t (readers_here c b t K.0).names i)))
      (λ t n k K. (in_calm_on c b t (Takes (events.Tick n k)) K.0, all_then s.readers t.readers _ K.1 (tick_goes c t (readers_here c b t K.0).names n k)))
      (λ t name K. (in_calm_on c b t (Takes (events.Poll name)) K.0, all_then s.readers t.readers _ K.1 (poll_goes c t (readers_here c b t K.0).names name)))
      (λ t k q e g K. (let N = (readers_here c b t K.0).names in (in_calm_on c b t (Calms q.0) K.0, all_then s.readers t.readers _ K.1 (announcement_goes c t N q.0 q.1 (last_is t k q N.0 e).named g))))

  first : Always s
  first = (in_calm_first c b ms, all_stay s.readers)

  at_end : Always (calms c s).state
  at_end = at_last c (λ t ps. Always t) always (calm_fuel c s) s (all_left c s) first (calm_ends_after c ms b).0 (unlimited (calms c s) U)

  module _ (l : ℕ) (log : has_log c l ≡ true) where
    abbrev names : List (List ℕ)
    names = readers_of l s.readers

    -- the turns of the log's readers, whatever follows them
    abbrev All : State → List Left → Type 0
    All t ps = (zs : List Left) × Turns c b l (Ready c l) (lasting c b l log) names zs t ps

    parts : (zs : List Left) → Parts c (Turns c b l (Ready c l) (lasting c b l log) names zs)
    parts zs = turns_parts c b l (Ready c l) (lasting c b l log) names zs

    all_parts : Parts c All
    all_parts = record {
      announced = λ t k ps q T e g u. (T.0, (parts T.0).announced t k ps q T.1 e g u);
      silent = λ t k ps T g. (T.0, (parts T.0).silent t k ps T.1 g);
      settles = λ t k ps i T e u. (T.0, (parts T.0).settles t k ps i T.1 e u);
      settled = λ t k ps T e. (T.0, (parts T.0).settled t k ps T.1 e);
      cleaned = λ t k n ps T e u. (T.0, (parts T.0).cleaned t k n ps T.1 e u);
      ticked = λ t k n ps T e u. (T.0, (parts T.0).ticked t k n ps T.1 e u);
      polled = λ t name d ps T f k u. (T.0, (parts T.0).polled t name d ps T.1 f k u);
      finished = λ t name ps T h. (T.0, (parts T.0).finished t name ps T.1 h);
      drains = λ t ps i T e u. (T.0, (parts T.0).drains t ps i T.1 e u);
      drained = λ t ps T e. (T.0, (parts T.0).drained t ps T.1 e);
      asked = λ t name n d ps T f h u. (T.0, (parts T.0).asked t name n d ps T.1 f h u);
      rested = λ t name n ps T h. (T.0, (parts T.0).rested t name n ps T.1 h);
    }

    turns_at_end : All (calms c s).state []
    turns_at_end = calm_reaches c ms b A U l log Always always first All all_parts (λ zs t K B e. (zs, turns_begin c b l (Ready c l) (lasting c b l log) names zs t B K.0 e))

    -- each of its readers is served
    pub readers_served : (name : List ℕ) (d : Reader) → find_named name (calms c s).state.readers ≡ Some d → d.log ≡ l → (is_finished d ≡ true) ⊎ (released_by (last_of (calms c s).state l) < d.next)
    readers_served name d f lg =
        let z = at_end.1 name d f in
        by_over (turns_over c b l (Ready c l) (lasting c b l log) names turns_at_end.0 (calms c s).state turns_at_end.1 name (has_turn l name z.0 s.readers z.1 (sym z.2.log ∙ lg)) d f lg) where
          by_over : Over c b l (Ready c l) (lasting c b l log) names turns_at_end.0 (calms c s).state d → (is_finished d ≡ true) ⊎ (released_by (last_of (calms c s).state l) < d.next)
          by_over (finished h) = inl h
          by_over (in_last h) = elim (cases_Bool (is_finished d)) [ inl t ↦ inl t | inr t ↦ absurd (let a = U.rounds name d f t in let e = ltb-false d.round last_round h in omega arith) ]
          by_over (past h) = inr h

pub calm_serves_after : CalmServesAfter
calm_serves_after c ms b A U l log = record {
  settled = λ q e. settled_after c b ms A U l q log e;
  readers = readers_served c ms b A U l log;
}

pub calm_serves : CalmServes
calm_serves c es b = after_events c (λ s. AllWell c s → NoLimit (calms c s) → (l : ℕ) → has_log c l ≡ true → IsServed c (calms c s).state l) (λ ms. calm_serves_after c ms b) es
