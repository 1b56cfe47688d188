-- A drive goes on by a step.
use Rattle.std.proofs.Common.{◌≡◌, ◌⊎◌, inl, inr, ℕ, Bool, true, false, List, [], ◌∷◌, ◌++◌, length, set, Option, Some, refl, ap, sym, ◌∙◌, subst, arith}
use Rattle.std.specs.List.{AllByRecursion}
use Rattle.std.proofs.lemmas.List.{set-set, set-get_or, length-set, get_or-set_same}
use Rattle.ld_ids.specs.Id.{IsNode}
use Rattle.ld_config.specs.declared.config.Config.{Config}
use Rattle.ld_config.specs.Bounds.{IsInBounds}
use Rattle.ld_schedule.specs.declared.event.Event.{Event}
use Rattle.ld_schedule.specs.declared.event.Event.TheVariants as events
use Rattle.ld_transcript.specs.declared.line.Line.{Line}
use Rattle.ld_msg.specs.declared.msg.Who.TheVariants as whos
use Rattle.ld_msg.specs.declared.msg.Msg.{Msg}
use Rattle.ld_msg.specs.Network.{Network, mark, send_all}
use Rattle.ld_machine.specs.Disk.{Node}
use Rattle.ld_machine.specs.State.{State, Done, finish, sent_state, only_state}
use Rattle.ld_machine.specs.Step.{happens, comes_to, to_node, marked}
use Rattle.ld_machine.specs.Run.{step}
use Rattle.ld_bounds.specs.Sound.{IsSound, IsEvent}
use Rattle.ld_bounds.proofs.Steps.{step_is, marked_is}
use Rattle.ld_dial.specs.Far.{Far, handed}
use Rattle.ld_rounds.specs.Queued.{queue_of, put_all}
use Rattle.ld_rounds.specs.News.{is_answer, waits_for, AreNews}
use Rattle.ld_rounds.specs.Acts.{IsActed}
use Rattle.ld_rounds.specs.Drives.{own_lines, Driver, MayLose, MayDeliver, IsDriven, Goes, IsApart, Holds, Moved}
use Rattle.ld_rounds.specs.Telling.{is_of}
use Rattle.ld_rounds.specs.Rounds.{Concerns, Visiting, IsDelivered}
use Rattle.ld_rounds.specs.Turns.{IsFirst, IsTurn}
use Rattle.ld_rounds.proofs.Joining.{Joins, visiting_joins, lost_visits, sent_visits}
use Rattle.ld_rounds.proofs.Turns.{asked_turn, heard_turn}
use Rattle.ld_rounds.proofs.News.{Taken, take_first, take_answer, first_asks, first_is, answer_is, sent_answers, sent_asks, length-put_all}
use Rattle.ld_rounds.proofs.Steps.{stays, goes_on, goes_by, delivery_is, loss_is, lost_state, finished_state, to_node_far, answers_from, IsFar}

abbrev parted : State → List (ℕ × Node) → Network → State
parted s nodes network = record s { nodes = nodes; network = network }

module _ (who : Driver) (broken : Type 0) (c : Config) (first : ℕ) (b : IsInBounds c) where
  abbrev pub moved_none : (y : ℕ) (stands : Config → State → Type 0) (s : State) (far : Far) (qs : List (List Msg)) → Holds stands c first s far qs → Moved who broken (Visiting c first y) stands c first s far qs []
  moved_none y stands s far qs h = record { state = s; goes = stays who broken c (Visiting c first y) s (tt, tt, tt); holds = h }

  -- one move after the other
  abbrev pub moved_on : (P Q R : State → List Event → Type 0) (A B : Config → State → Type 0) (s : State) (far end : Far) (qs rs : List (List Msg)) (xs ys : List Line) → Joins c P Q R → (l : Moved who broken P A c first s far qs xs) → Moved who broken Q B c first l.state end rs ys
      → Moved who broken R B c first s end rs (xs ++ ys)
  moved_on P Q R A B s far end qs rs xs ys j l k = record { state = k.state; goes = goes_on who broken c P Q R s l.state k.state xs ys j l.goes k.goes; holds = k.holds }

  abbrev pub moved_visiting : (y : ℕ) (A B : Config → State → Type 0) (s : State) (far end : Far) (qs rs : List (List Msg)) (xs ys : List Line) → (l : Moved who broken (Visiting c first y) A c first s far qs xs) → Moved who broken (Visiting c first y) B c first l.state end rs ys
      → Moved who broken (Visiting c first y) B c first s end rs (xs ++ ys)
  moved_visiting y A B s far end qs rs xs ys l k = moved_on (Visiting c first y) (Visiting c first y) (Visiting c first y) A B s far end qs rs xs ys (visiting_joins c first y) l k

  module _ (stands : Config → State → Type 0) (apart : IsApart stands) where
    -- the message of a place is lost
    lose : (y : ℕ) (p : Msg → Bool) (s : State) (far end : Far) (qs rs : List (List Msg)) (m : Msg) → Concerns y (Some m) → ((i : ℕ) → IsFirst p first s.network i → IsTurn first y s.network i (Some m)) → Holds stands c first s far qs → length rs ≡ 17 → end.nodes ≡ far.nodes → Taken p first s.network m rs end.answers → ((is_answer m ≡ false) × broken) ⊎ ((is_answer m ≡ true) × (who.takes s m ≡ false)) → Moved who broken (Visiting c first y) stands c first s end rs []
    lose y p s far end qs rs m of turn h l e k why = record {
      state = marked s k.place;
      goes = subst (λ (x : State). Goes who broken (Visiting c first y) c s x []) (lost_state s k.place) (goes_by who broken c (Visiting c first y) s (events.Lose k.place) (only_state (marked s k.place)) (subst (λ o. MayLose broken (who.takes s) o) (sym k.there) why) (lost_visits c first y k.place m s k.there of (turn k.place k.foremost)) (loss_is c s k.place));
      holds = record {
        sound = marked_is c s h.sound k.place;
        actor = apart c s s.nodes (mark s.network k.place) h.actor;
        nodes = h.nodes ∙ sym e;
        count = l;
        news = k.news;
      };
    }

    -- the first message that waits for a node is lost
    pub lose_first : broken → (s : State) (far : Far) (qs : List (List Msg)) (y : ℕ) (m : Msg) (rest : List Msg) → Holds stands c first s far qs → IsNode y → queue_of qs y ≡ m ∷ rest
        → Moved who broken (Visiting c first y) stands c first s far (set qs y rest) []
    lose_first why s far qs y m rest h is q = lose y (waits_for y) s far far qs (set qs y rest) m (inl (first_is first s.network qs far.answers y m rest h.news is q)) (asked_turn first y s.network m (first_asks first s.network qs far.answers y m rest h.news is q)) h (length-set qs y rest ∙ h.count) refl (take_first first s.network qs far.answers y m rest h.news is h.count q) (inl (first_asks first s.network qs far.answers y m rest h.news is q, why))

    -- the first answer, which the actor doesn't take, is lost
    pub lose_answer : (y : ℕ) (s : State) (far : Far) (qs : List (List Msg)) (m : Msg) (rest : List Msg) → is_of y m.from ≡ true → Holds stands c first s far qs → far.answers ≡ m ∷ rest → who.takes s m ≡ false → Moved who broken (Visiting c first y) stands c first s (record far { answers = rest }) qs []
    lose_answer y s far qs m rest of h e untaken = lose y is_answer s far (record far { answers = rest }) qs qs m (inr of) (heard_turn first y s.network m (answer_is first s.network qs far.answers m rest h.news e)) h h.count refl (take_answer first s.network qs far.answers m rest h.news e) (inr (answer_is first s.network qs far.answers m rest h.news e, untaken))

    -- all that waits for a node is lost
    lose_each : broken → (s : State) (far : Far) (qs : List (List Msg)) (y : ℕ) (ms : List Msg) → Holds stands c first s far qs → IsNode y → queue_of qs y ≡ ms
        → set qs y ms ≡ qs → Moved who broken (Visiting c first y) stands c first s far (set qs y []) []
    lose_each why s far qs y [] h is q e = moved_none y stands s far (set qs y []) (subst (λ (x : List (List Msg)). Holds stands c first s far x) (sym e) h)
    lose_each why s far qs y (m ∷ ms) h is q e =
        let one : Moved who broken (Visiting c first y) stands c first s far (set qs y ms) [] = lose_first why s far qs y m ms h is q in
        let more : Moved who broken (Visiting c first y) stands c first one.state far (set (set qs y ms) y []) [] = lose_each why one.state far (set qs y ms) y ms one.holds is
        (get_or-set_same qs y ms [] (omega (arith, h.count, is.1))) (set-set qs y ms ms) in
        subst (λ (x : List (List Msg)). Moved who broken (Visiting c first y) stands c first s far x []) (set-set qs y ms []) (moved_visiting y stands stands s far far (set qs y ms) (set (set qs y ms) y []) [] [] one more)

    pub lose_queue : broken → (s : State) (far : Far) (qs : List (List Msg)) (y : ℕ) → Holds stands c first s far qs → IsNode y → Moved who broken (Visiting c first y) stands c first s far (set qs y []) []
    lose_queue why s far qs y h is = lose_each why s far qs y (queue_of qs y) h is refl (set-get_or qs y [])

    -- another node, or none, is present, where no answer is to be taken
    pub turn_to : (y : ℕ) (s : State) (far : Far) (present : Option ℕ) (qs : List (List Msg)) → far.answers ≡ [] → Holds stands c first s far qs → Moved who broken (Visiting c first y) stands c first s (record { nodes = far.nodes; present = present; answers = [] }) qs []
    turn_to y s far present qs e h = moved_none y stands s (record { nodes = far.nodes; present = present; answers = [] }) qs (record { sound = h.sound; actor = h.actor; nodes = h.nodes; count = h.count; news = subst (λ answers. AreNews first s.network qs answers) e h.news })

    -- the first message that waits for a node is delivered
    pub hand_first : (s : State) (far : Far) (qs : List (List Msg)) (y : ℕ) (m : Msg) (rest : List Msg) → Holds stands c first s far qs → IsNode y → queue_of qs y ≡ m ∷ rest → m.to ≡ whos.Node y
        → Moved who broken (Visiting c first y) stands c first s (record { nodes = (handed c far.nodes y m).state.nodes; present = Some y; answers = far.answers ++ (handed c far.nodes y m).sends }) (set qs y rest) []
    hand_first s far qs y m rest h is q to =
        let k = take_first first s.network qs far.answers y m rest h.news is h.count q in
        let i = k.place in
        let d : Done = to_node c (marked s i) y m in
        let e : Done = handed c far.nodes y m in
        let f : IsFar (marked s i) d (handed c s.nodes y m) = to_node_far c (marked s i) y m in
        let there : step c s (events.Deliver i) ≡ finish d = delivery_is c s i m k.there ∙ ap (λ w. finish (comes_to c (marked s i) m w)) to in
        let asked = subst (λ o. MayDeliver (who.takes s) o) (sym k.there) (inl (first_asks first s.network qs far.answers y m rest h.news is q)) in
        let sends : d.sends ≡ e.sends = f.sends ∙ ap (λ n. (handed c n y m).sends) h.nodes in
        let next : State = parted s e.state.nodes (send_all (mark s.network i) e.sends) in
        let now : (finish d).state ≡ next = finished_state d ∙ (ap (λ x. sent_state x d.sends) (f.state ∙ ap (λ n. record (marked s i) { nodes = (handed c n y m).state.nodes }) h.nodes)
        ∙ ap (λ ms. parted s e.state.nodes (send_all (mark s.network i) ms)) sends) in
        record {
          state = next;
          goes = subst (λ (x : State). Goes who broken (Visiting c first y) c s x []) now (subst (λ ls. Goes who broken (Visiting c first y) c s (finish d).state ls) f.quiet (goes_by who broken c (Visiting c first y) s (events.Deliver i) d asked (sent_visits c first y i m s k.there (inl (first_is first s.network qs far.answers y m rest h.news is q)) (asked_turn first y s.network m (first_asks first s.network qs far.answers y m rest h.news is q) i k.foremost)) there));
          holds = record {
            sound = subst (λ (x : State). IsSound c x) (ap (λ r. r.state) there ∙ now) (step_is c b s (events.Deliver i) tt h.sound);
            actor = apart c s e.state.nodes (send_all (mark s.network i) e.sends) h.actor;
            nodes = refl;
            count = length-set qs y rest ∙ h.count;
            news = sent_answers first (mark s.network i) (set qs y rest) far.answers e.sends k.news (subst (λ ms. AllByRecursion (λ x. is_answer x ≡ true) ms) sends (answers_from c (marked s i) y m));
          };
        }

    -- the first answer, which the actor takes, comes to it
    pub hear_first : (after : Config → State → Type 0) → IsApart after → (s : State) (far : Far) (qs : List (List Msg)) (m : Msg) (rest : List Msg) (ls : List Line) (ms : List Msg) → Holds stands c first s far qs → far.answers ≡ m ∷ rest → who.takes s m ≡ true
        → ((t : State) → IsSound c t → stands c t → IsActed (after c) t ls ms (comes_to c t m m.to))
        → Moved who broken (IsDelivered first m) after c first s (record far { answers = rest }) (put_all qs ms) ls
    hear_first after still s far qs m rest ls ms h e heard acts =
        let k = take_answer first s.network qs far.answers m rest h.news e in
        let i = k.place in
        let before : State = marked s i in
        let a : IsActed (after c) before ls ms (comes_to c before m m.to) = acts before (marked_is c s h.sound i) (apart c s s.nodes (mark s.network i) h.actor) in
        let d : Done = comes_to c before m m.to in
        let there : step c s (events.Deliver i) ≡ finish d = delivery_is c s i m k.there in
        let network : (finish d).state.network ≡ send_all (mark s.network i) ms = ap (λ x. x.network) (finished_state d) ∙ (ap (λ w. send_all w d.sends) a.network ∙ ap (send_all (mark s.network i)) (sym a.sends)) in
        record {
          state = (finish d).state;
          goes = subst (λ xs. Goes who broken (IsDelivered first m) c s (finish d).state xs) (ap own_lines (sym a.lines) ∙ a.own) (goes_by who broken c (IsDelivered first m) s (events.Deliver i) d (subst (λ o. MayDeliver (who.takes s) o) (sym k.there) (inr heard)) (record { place = i; one = refl; there = k.there; foremost = k.foremost }) there);
          holds = record {
            sound = subst (λ (x : State). IsSound c x) (ap (λ r. r.state) there) (step_is c b s (events.Deliver i) tt h.sound);
            actor = subst (λ (x : State). after c x) (sym (finished_state d)) (still c d.state d.state.nodes (send_all d.state.network d.sends) a.actor);
            nodes = ap (λ x. x.nodes) (finished_state d) ∙ (a.nodes ∙ h.nodes);
            count = length-put_all qs ms ∙ h.count;
            news = subst (λ (w : Network). AreNews first w (put_all qs ms) rest) (sym network) (sent_asks first (mark s.network i) qs rest ms k.news h.count a.asks);
          };
        }

    -- the actor does something by itself
    pub acted_on : (P : State → List Event → Type 0) (after : Config → State → Type 0) → IsApart after → (s : State) (far : Far) (qs : List (List Msg)) (e : Event) (ls : List Line) (ms : List Msg) → IsDriven who broken s e → P s (e ∷ []) → IsEvent e → step c s e ≡ finish (happens c s e)
        → Holds stands c first s far qs → IsActed (after c) s ls ms (happens c s e) → Moved who broken P after c first s far (put_all qs ms) ls
    acted_on P after still s far qs e ls ms driven such is there h a =
        let d : Done = happens c s e in
        let network : (finish d).state.network ≡ send_all s.network ms = ap (λ x. x.network) (finished_state d) ∙ (ap (λ w. send_all w d.sends) a.network ∙ ap (send_all s.network) (sym a.sends)) in
        record {
          state = (finish d).state;
          goes = subst (λ xs. Goes who broken P c s (finish d).state xs) (ap own_lines (sym a.lines) ∙ a.own) (goes_by who broken c P s e d driven such there);
          holds = record {
            sound = subst (λ (x : State). IsSound c x) (ap (λ r. r.state) there) (step_is c b s e is h.sound);
            actor = subst (λ (x : State). after c x) (sym (finished_state d)) (still c d.state d.state.nodes (send_all d.state.network d.sends) a.actor);
            nodes = ap (λ x. x.nodes) (finished_state d) ∙ (a.nodes ∙ h.nodes);
            count = length-put_all qs ms ∙ h.count;
            news = subst (λ (w : Network). AreNews first w (put_all qs ms) far.answers) (sym network) (sent_asks first s.network qs far.answers ms h.news h.count a.asks);
          };
        }
