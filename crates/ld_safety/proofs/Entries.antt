-- Each entry says what its ballot says of its number, or was refilled, and the copies of acknowledged numbers of open epochs stand, and of closed ones.
use Rattle.std.proofs.Common.{◌≡◌, ◌∙◌, ◌⊎◌, ◌≤◌, ◌<◌, ℕ, inl, inr, refl, ap, sym, subst, true, false, is_some, List, [], Some, arith}
use Rattle.std.proofs.lemmas.Bool.{cases_Bool, cases_eq, cases_order, le-leb, or_left, or_right, or_cases}
use Rattle.ld_table.specs.Words.{is_in, how_many}
use Rattle.ld_lsn.specs.Number.{epoch_of, esn_of, numbered}
use Rattle.ld_config.specs.declared.config.Config.{Config}
use Rattle.ld_config.specs.Bounds.{IsInBounds}
use Rattle.ld_msg.specs.declared.msg.What.{What}
use Rattle.ld_msg.specs.declared.msg.What.TheVariants.{Rec}
use Rattle.ld_msg.specs.declared.msg.Entry.{Entry}
use Rattle.ld_msg.specs.declared.msg.Summary.{Summary}
use Rattle.ld_msg.specs.Digest.{plan_floor}
use Rattle.ld_msg.specs.Sequencer.{Sequencer, Recovery, Stage, Seals, Stores, Closes, Planned}
use Rattle.ld_op.specs.Plain.{Plain, log_of, is_lost, summary_at}
use Rattle.ld_machine.specs.Config.{spec_of, fixed_at, set_at}
use Rattle.ld_machine.specs.State.{node_at}
use Rattle.ld_machine.specs.Facts.{Happened}
use Rattle.ld_machine.specs.World.{World, In, MayHold, Stored, begin, item, has_told, has_append, has_joined, says_stored, vouched}
use Rattle.ld_machine.specs.Invariant.{EntriesAreItems, IsItem, IsKnownGood, IsOfLoss, planned_in, Closed, IsOpen, Acked, CopyAt, AppendsOf, HasLoss, Copies, HoldsItem}
use Rattle.ld_machine.specs.Run.{Move, world_after, trace}
use Rattle.ld_safety.proofs.Lists.{Some_inj, not_both, count_mono}
use Rattle.ld_safety.proofs.Members.{find_in}
use Rattle.ld_safety.proofs.Traces.{Keeps, later, both_kept}
use Rattle.ld_safety.proofs.Plans.{plan_shape, floor_lng}
use Rattle.ld_safety.proofs.GivenSteps.{BaseGiven}
use Rattle.ld_safety.proofs.Protocol.{Basis, plan_of, plan_at, OwnSays, Says, tells_stored, told_stored}
use Rattle.ld_safety.proofs.Settled.{Acknowledged, LossSays, OfLoss, ClosedBy, Reached, TrimFine, CloseFine, ShowFine, ReleaseFine, LngFine, close_low}
use Rattle.ld_safety.proofs.Carried as carried
use Rattle.ld_safety.proofs.Names.{found}
use Rattle.ld_safety.proofs.Said.{Said, SaidHere}
use Rattle.ld_safety.proofs.Shown.{acked_own}
use Rattle.ld_safety.proofs.Shown as shown
use Rattle.ld_safety.proofs.Along.{Along}
use Rattle.ld_safety.proofs.LngBelow.{plans_low}
use Rattle.ld_safety.proofs.LossHeard as losses
use Rattle.ld_safety.proofs.CopiesStand.{NoLoss, has_plan, loss_or_none, has_loss, once, summary_there, said_at, acked_not_ended, good_held, joined_good, copies_here, short_here}
use Rattle.ld_safety.proofs.Joins.{now_count}
use Rattle.ld_safety.proofs.Registers.{look_like}
use Rattle.ld_safety.proofs.Holdings.{KeptBy}
use Rattle.ld_safety.proofs.Serving.{Gone}
use Rattle.ld_safety.proofs.Retained.{at_nodes}
use Rattle.ld_safety.proofs.Told.{AllTold}
use Rattle.ld_safety.proofs.Unhidden.{Everything, everything_kept}
use Rattle.ld_safety.proofs.Specs.{SetsFine, each_fine}
use Rattle.ld_safety.proofs.AppendsSent.{AllSent, sending_kept}
use Rattle.ld_safety.proofs.Items.{item_says}
use Rattle.ld_safety.proofs.Sequencing.{acknowledged_of, acked_chosen}
use Rattle.ld_safety.proofs.HandedLaws.{said_in, FromOneOn, Handing, handing_kept}
use Rattle.ld_safety.proofs.Handed.{HandedOut}

module _ (c : Config) (hs : List Happened) (w : World) (B : BaseGiven c hs w × Along c hs w) (S : AllSent hs w) where
  is_item : (l : ℕ) (e : Entry) → Said hs w.made w.state.register l e.ballot e.number e.what → IsItem hs w l e
  is_item l e s = record { item = inl (item_says c hs w B S l e.number e.ballot e.what s.says); appended = s.given.appended }

  -- what a loss plan says is refilled of a greater ballot than the close, or is the closing plan's item
  of_loss : (l : ℕ) (e : Entry) → Reached w.state.register l (epoch_of e.number) → OfLoss w.made w.state.register l e.ballot e.number e.what → (item w l e.number e.ballot ≡ Some e.what) ⊎ (IsKnownGood w l e ⊎ IsOfLoss w l e)
  of_loss l e r o = elim (cases_order o.summary.ballot g.ballot) [
    | inl q ↦ inl (subst (λ b. item w l e.number b ≡ Some e.what) (sym (o.ballot ∙ q)) says)
    | inr (inl lt) ↦ inr (inr (o.summary, g.ballot, plan_of l (epoch_of e.number) g.ballot g.basis, o.found_so, sym o.ballot, lt, has_plan l (epoch_of e.number) g.ballot w.made g.basis B.1.once g.planned, g.loss, says))
    | inr (inr lt) ↦ absurd (elim o.says.side [ inl z ↦ omega arith | inr z ↦ older lt z ])
  ] where
    g : LossSays w.made l e.number e.what
    g = o.says.says

    says : item w l e.number g.ballot ≡ Some e.what
    says = item_says c hs w B S l e.number g.ballot e.what (inr (record { later = g.later; basis = g.basis; planned = g.planned; item = g.item }))

    older : g.ballot < o.summary.ballot → esn_of e.number ≤ o.summary.lng → ⊥
    older lt low = elim (B.1.said.register l (epoch_of e.number) o.summary o.found_so).1 [
      | inl a ↦ (let z = a.0 in let y = r.0 in omega arith)
      | inr k ↦ (let z = plans_low c hs w B.1 l (epoch_of e.number) g.ballot o.summary.ballot g.basis k.plan.basis g.planned k.plan.planned g.loss lt in
          let y = k.plan.lng in let u = (plan_shape (epoch_of e.number) g.basis.loss g.basis.digest (esn_of e.number) e.what g.item).above in let v = floor_lng (epoch_of e.number) g.basis.digest in omega arith)
    ]

  -- an entry that is kept or read may have been refilled
  here_item : (l : ℕ) (e : Entry) → SaidHere hs w.made w.state.register l e.ballot e.number e.what → IsItem hs w l e
  here_item l e s = record {
    item = elim s.says [
      | inl o ↦ inl (item_says c hs w B S l e.number e.ballot e.what o)
      | inr (inl o) ↦ inr (inl (o.summary, o.found_so, sym o.ballot, o.good.low, item_says c hs w B S l e.number (epoch_of e.number) e.what (inl o.good.says)))
      | inr (inr o) ↦ of_loss l e s.reached o
    ];
    appended = s.given.appended;
  }

  said_of : (q : List ℕ × Sequencer) → In q w.state.sequencers → carried.SequencerOk (Said hs w.made w.state.register) (TrimFine c hs w.state.network.sent w.state.register) (CloseFine c hs w.made w.state.network.sent w.state.register) (Reached w.state.register) (ShowFine c hs w.made w.state.network.sent w.state.register) (ReleaseFine c hs w.state.network.sent w.state.register) (SaidHere hs w.made w.state.register) (LngFine c hs w.state.network.sent w.state.register) q.0 q.1
  said_of q i = B.1.said.sequencers q.0 q.1 (found w.state.sequencers q B.0.0.0.0.0 i)

  stage_said : (l b e : ℕ) (g : Stage) (i : ℕ × Planned) → carried.StageOk (Said hs w.made w.state.register) (TrimFine c hs w.state.network.sent w.state.register) (CloseFine c hs w.made w.state.network.sent w.state.register) (Reached w.state.register) (ShowFine c hs w.made w.state.network.sent w.state.register) (ReleaseFine c hs w.state.network.sent w.state.register) (SaidHere hs w.made w.state.register) (LngFine c hs w.state.network.sent w.state.register) l b e g
      → In i (planned_in g) → Said hs w.made w.state.register l b i.0 i.1.what
  stage_said l b e (Seals ts) i h j = absurd j
  stage_said l b e (Stores g) i h j = h.1 i j
  stage_said l b e (Closes y short) i h j = absurd j

  plan_said : (q : List ℕ × Sequencer) (v : Recovery) (i : ℕ × Planned) → In q w.state.sequencers → q.1.recovery ≡ Some v → In i (planned_in v.stage) → IsItem hs w q.1.log (record { number = i.0; ballot = q.1.epoch; what = i.1.what })
  plan_said q v i k r j = is_item q.1.log (record { number = i.0; ballot = q.1.epoch; what = i.1.what }) (stage_said q.1.log q.1.epoch v.epoch v.stage i
      (subst (carried.RecoveryOk (Said hs w.made w.state.register) (TrimFine c hs w.state.network.sent w.state.register) (CloseFine c hs w.made w.state.network.sent w.state.register) (Reached w.state.register) (ShowFine c hs w.made w.state.network.sent w.state.register) (ReleaseFine c hs w.state.network.sent w.state.register) (SaidHere hs w.made w.state.register) (LngFine c hs w.state.network.sent w.state.register) q.1.log q.1.epoch) r (said_of q k).recovery).1 j)

  pub entries_here : HandedOut w → EntriesAreItems hs w
  entries_here H = record {
    at_nodes = λ y p m l n e f. let z = (said_at c hs w B y p m l).entries (n, e) (find_in n (log_of p l).entries e f) in (z.0, here_item l e z.1);
    in_messages = λ m e i j. here_item m.log e (said_in c hs w B H m e m.body (B.1.said.sent m i).0 j);
    in_plans = plan_said;
    in_appends = λ q p i j. is_item q.1.log (record { number = p.0; ballot = q.1.epoch; what = Rec p.1.payload }) ((said_of q i).appends p j);
  }

  -- ---- copies of acknowledged appends ----
  acked_item : (l n : ℕ) → (a : Acknowledged c hs w.state.network.sent w.state.register l n) → item w l n (epoch_of n) ≡ Some (Rec a.payload)
  acked_item l n a = item_says c hs w B S l n (epoch_of n) (Rec a.payload) (inl (record { own = refl; payload = a.payload; is = refl; appended = a.appended }))

  with_item : (l n : ℕ) (p : Plain) (a : Acknowledged c hs w.state.network.sent w.state.register l n) → (n ≤ (log_of p l).trim) ⊎ HoldsItem p l n (epoch_of n) (Rec a.payload) → (n ≤ (log_of p l).trim) ⊎ ((x : What) × (item w l n (epoch_of n) ≡ Some x) × HoldsItem p l n (epoch_of n) x)
  with_item l n p a (inl h) = inl h
  with_item l n p a (inr h) = inr (Rec a.payload, acked_item l n a, h)

  -- ---- in open epochs ----
  module _ (T : AllTold c hs w) (l n y : ℕ) (still : IsOpen w l (epoch_of n)) (k : Acked hs l n) (stored : Stored w l y n (epoch_of n)) where
    a : Acknowledged c hs w.state.network.sent w.state.register l n
    a = acknowledged_of c hs w T l n k

    -- a node that serves the epoch
    module _ (p : Plain) (m : MayHold (node_at w.state y) p) (formatted : p.generation ≡ 0 → ⊥) (not_lost : is_lost (log_of p l) (epoch_of n) ≡ false) where
      not_clean : is_some (summary_at (log_of p l) (epoch_of n)) ≡ true → ⊥
      not_clean h = let s = summary_there (log_of p l) (epoch_of n) a.reached.0 h in
          let z = close_low c hs w.made w.state.network.sent w.state.register l (epoch_of n) s.0 ((said_at c hs w B y p m l).summaries (epoch_of n, s.0) (find_in (epoch_of n) (log_of p l).summaries s.0 s.1)) in omega arith

      -- it had something to tell as each loss plan was made
      told_then : (g : ℕ) (d : Basis) → In (plan_of l (epoch_of n) g d) w.made → d.loss ≡ true → is_in y d.gone ≡ false
      told_then g d i lo = elim (cases_Bool (is_in y d.gone)) [
        | inr t ↦ t
        | inl t ↦ absurd (elim ((B.1.losses l (epoch_of n) g d i lo).unserved y t p m) [ inl h ↦ formatted h | inr (inl h) ↦ not_both (is_lost (log_of p l) (epoch_of n)) h not_lost | inr (inr h) ↦ not_clean h ])
      ]

      own_says : Says hs w.made l (epoch_of n) n (Rec a.payload)
      own_says = inl (record { own = refl; payload = a.payload; is = refl; appended = a.appended })

      no_own : (d : Basis) → In (plan_of l (epoch_of n) (epoch_of n) d) w.made → d.loss ≡ false
      no_own d i = absurd (let z = (B.1.plans l (epoch_of n) (epoch_of n) d i).later in omega arith)

      in_found : (g : ℕ) (d : Basis) → In (plan_of l (epoch_of n) g d) w.made → d.loss ≡ false → epoch_of n < g → (plan_at (epoch_of n) d (esn_of n) ≡ Some (Rec a.payload)) ⊎ (esn_of n ≤ plan_floor (epoch_of n) d.digest)
      in_found g d i lo lt = shown.acked_item c hs w.made w.state.network.sent w.state.register (once c hs w B.0.0 B.1) B.1.once B.1.plans B.1.last l n g d a i lo

      -- what a loss plan says of it is its record
      loss_what : (x : What) → LossSays w.made l n x → x ≡ Rec a.payload
      loss_what x o = let up = (plan_shape (epoch_of n) o.basis.loss o.basis.digest (esn_of n) x o.item).above in
          elim (losses.heard c hs w B.1 (once c hs w B.0.0 B.1) l n (epoch_of n) y (Rec a.payload) (λ z. cc) a.below own_says no_own in_found (B.1.stored_of l y n (epoch_of n) stored).1 stored o.ballot o.basis o.later o.planned o.loss (told_then o.ballot o.basis o.planned o.loss)) [
            | inl z ↦ absurd (omega arith)
            | inr z ↦ Some_inj (sym o.item ∙ z.0)
          ]

      open_what : (f : Entry) → SaidHere hs w.made w.state.register l f.ballot n f.what → f.what ≡ Rec a.payload
      open_what f s = elim s.says [
        | inl o ↦ elim (acked_own c hs w.made w.state.network.sent w.state.register (once c hs w B.0.0 B.1) B.1.once B.1.plans B.1.last l n f.ballot f.what a o) [ inl z ↦ own_what z | inr z ↦ loss_what f.what z ]
        | inr (inl o) ↦ own_what o.good.says
        | inr (inr o) ↦ loss_what f.what o.says.says
      ] where
        own_what : OwnSays hs l (epoch_of n) n f.what → f.what ≡ Rec a.payload
        own_what o = o.is ∙ ap Rec (once c hs w B.0.0 B.1 l n o.payload a.payload o.appended a.appended)

      open_kept : KeptBy w.made (log_of p l) l n (epoch_of n) → (n ≤ (log_of p l).trim) ⊎ HoldsItem p l n (epoch_of n) (Rec a.payload)
      open_kept (inl h) = inl h
      open_kept (inr (inl h)) = let z = (said_at c hs w B y p m l).entries (n, h.entry) (find_in n (log_of p l).entries h.entry h.found_at) in
          inr (h.entry, h.found_at, h.least, open_what h.entry (subst (λ k. SaidHere hs w.made w.state.register l h.entry.ballot k h.entry.what) z.0 z.1))
      open_kept (inr (inr h)) = absurd (elim (cases_Bool h.basis.loss) [
        | inr t ↦ acked_not_ended c hs w B.0.0 B.1 l n (epoch_of n) _ a h t
        | inl t ↦ losses.not_ended c hs w B.1 (once c hs w B.0.0 B.1) l n (epoch_of n) y (Rec a.payload) (λ z. cc) a.below own_says no_own in_found (B.1.stored_of l y n (epoch_of n) stored).1 stored h.ballot h.basis h.above h.planned t (told_then h.ballot h.basis h.planned t) h.before
      ])

      open_has : Gone p l (epoch_of n) ⊎ KeptBy w.made (log_of p l) l n (epoch_of n) → (n ≤ (log_of p l).trim) ⊎ ((x : What) × (item w l n (epoch_of n) ≡ Some x) × HoldsItem p l n (epoch_of n) x)
      open_has (inl (inl h)) = absurd (formatted h)
      open_has (inl (inr (inl h))) = absurd (not_both (is_lost (log_of p l) (epoch_of n)) h not_lost)
      open_has (inl (inr (inr h))) = absurd (not_clean (ap is_some h.1))
      open_has (inr h) = with_item l n p a (open_kept h)

    open_copy : CopyAt w l n (epoch_of n) y
    open_copy p m = elim (cases_eq p.generation 0) [
      | inl h ↦ inl h
      | inr h ↦ elim (cases_Bool (is_lost (log_of p l) (epoch_of n))) [
        | inl t ↦ inr (inl t)
        | inr t ↦ inr (inr (open_has p m h t ((at_nodes c hs w B.1 y p m).retains l n (epoch_of n) stored)))
      ]
    ]

  -- ---- where they were known good as their epoch was closed ----
  good_copies : (l n : ℕ) (y : Summary) → NoLoss w.made l (epoch_of n) → ClosedBy c hs w.made w.state.network.sent w.state.register l (epoch_of n) y → 0 < esn_of n → esn_of n ≤ y.lng → AppendsOf c w l n
  unfolding vouched
  good_copies l n y nl k pos low = record {
    enough = le-leb _ _ now_chosen;
    kept = λ z i p m. with_what p (elim (or_cases (has_told w (says_stored n) l (epoch_of n) z) (has_joined w l (epoch_of n) z) i) [
      | inl t ↦ good_held c hs w B l n y nl k pos low z (told_stored w.state.network.sent l n (epoch_of n) z t) p m
      | inr j ↦ joined_good c hs w B l n y nl k pos low z j p m
    ]);
  } where
    with_what : (p : Plain) → (p.generation ≡ 0) ⊎ ((is_lost (log_of p l) (epoch_of n) ≡ true) ⊎ ((n ≤ (log_of p l).trim) ⊎ HoldsItem p l n (epoch_of n) (Rec (k.plan.good n refl pos low).payload))) → (p.generation ≡ 0) ⊎ ((is_lost (log_of p l) (epoch_of n) ≡ true) ⊎ ((n ≤ (log_of p l).trim) ⊎ ((x : What) × (item w l n (epoch_of n) ≡ Some x) × HoldsItem p l n (epoch_of n) x)))
    with_what p (inl h) = inl h
    with_what p (inr (inl h)) = inr (inl h)
    with_what p (inr (inr h)) = inr (inr (with_item l n p (k.plan.good n refl pos low) h))

    -- as many as stored it of the nodes that were fixed are there now
    now_chosen : (spec_of c w.state.register l (epoch_of n)).r ≤ how_many (has_append w l n) (set_at c w.state.register l (epoch_of n))
    now_chosen =
        let h = (k.plan.good n refl pos low).chosen in
        let a = count_mono (tells_stored w.state.network.sent l n (epoch_of n)) (has_append w l n) (fixed_at c w.state.register l (epoch_of n)) (λ z i t. or_left (has_told w (says_stored n) l (epoch_of n) z) (has_joined w l (epoch_of n) z) t) in
        let b = now_count c w.joined w.state.register l (epoch_of n) (has_append w l n) B.1.follow B.1.each k.plan.reached (λ z j. or_right (has_told w (says_stored n) l (epoch_of n) z) (has_joined w l (epoch_of n) z) j) in
        let f = (look_like c w.state.register l (epoch_of n) B.1.each k.plan.reached).factor in omega arith

  known_good : FromOneOn w → (l e k : ℕ) (s : Summary) → Closed w l e s → s.trim < numbered e k → 0 < k → k ≤ s.lng → AppendsOf c w l (numbered e k) ⊎ HasLoss w l e
  known_good P l e k s f tr pos low = elim (B.1.said.register l e s f).1 [
    | inl a ↦ absurd (let z = a.0 in let y = P l e s f in omega arith)
    | inr a ↦ elim (loss_or_none l e w.made) [
      | inl b ↦ inr (has_loss c hs w B l e b.0 b.1 b.2 b.3)
      | inr b ↦
          let g = (B.1.plans l e s.ballot a.plan.basis a.plan.planned).good_most in let z = a.plan.lng in
          let ep : e ≡ epoch_of (numbered e k) = omega arith in
          inl (good_copies l (numbered e k) s (subst (NoLoss w.made l) ep b) (subst (λ x. ClosedBy c hs w.made w.state.network.sent w.state.register l x s) ep a) (omega arith) (omega arith))
    ]
  ]

  reached_closed : FromOneOn w → (l e : ℕ) (s : Summary) → Closed w l e s → Reached w.state.register l e
  reached_closed P l e s f = elim (B.1.said.register l e s f).1 [ inl a ↦ absurd (let z = a.0 in let y = P l e s f in omega arith) | inr a ↦ a.plan.reached ]

  pub all_copies : SetsFine w.state → AllTold c hs w → FromOneOn w → Copies c hs w
  all_copies F T P = record {
    acked = λ l n o a. acked_chosen c hs w T l n a;
    open_epochs = λ l n y o a i. open_copy T l n y o a i;
    closed_epochs = λ l e k s f r tr lo hi. copies_here c hs w B l e k s f tr lo hi r;
    closed_short = λ l e k s f tr lo hi. short_here c hs w B l e k s f tr lo hi (each_fine c w.state.register l e F.1 F.2 (reached_closed P l e s f));
    known_good = known_good P;
  }

abbrev pub Sending : Config → List Happened → World → Type 0
Sending c hs w = (((BaseGiven c hs w × Along c hs w) × (AllSent hs w × SetsFine w.state)) × Handing c hs w) × Everything c hs w

pub all_sending : (c : Config) → IsInBounds c → Keeps c (Sending c)
all_sending c b = both_kept c (λ hs w. ((BaseGiven c hs w × Along c hs w) × (AllSent hs w × SetsFine w.state)) × Handing c hs w) (Everything c)
    (both_kept c (λ hs w. (BaseGiven c hs w × Along c hs w) × (AllSent hs w × SetsFine w.state)) (Handing c) (sending_kept c b) (handing_kept c)) (everything_kept c)

pub entries_are_items : (c : Config) (es : List Move) → IsInBounds c → EntriesAreItems (trace c (begin c) es) (world_after c (begin c) es)
entries_are_items c es b = let p = later c (Sending c) (all_sending c b) [] (begin c) es (all_sending c b).begins in entries_here c (trace c (begin c) es) (world_after c (begin c) es) p.0.0.0 p.0.0.1.0 p.0.1.0.0.0.1

pub all_copies_stand : (c : Config) (es : List Move) → IsInBounds c → Copies c (trace c (begin c) es) (world_after c (begin c) es)
all_copies_stand c es b = let p = later c (Sending c) (all_sending c b) [] (begin c) es (all_sending c b).begins in all_copies c (trace c (begin c) es) (world_after c (begin c) es) p.0.0.0 p.0.0.1.0 p.0.0.1.1 p.1.1 p.0.1.1.1
