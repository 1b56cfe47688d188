-- What a sequencer waits for is under way; and where nothing is under way any more, it waits for nothing.
use Rattle.std.proofs.Common.{◌≡◌, ◌∙◌, ◌⊎◌, ◌≤◌, ℕ, ◌+◌, inl, inr, refl, ap, sym, subst, Bool, true, false, not, ◌&&◌, ◌||◌, nat_lt, nat_le, List, [], ◌∷◌, length, Option, Some, None, arith, le-leb}
use Rattle.std.proofs.lemmas.Bool.{cases_Bool, and_from, or_left, or_right, ltb-false}
use Rattle.ld_table.specs.Words.{is_in, all_of}
use Rattle.ld_ids.specs.Choice.{nodes_of}
use Rattle.ld_ids.specs.declared.set.Spec.{Spec}
use Rattle.ld_config.specs.declared.config.Config.{Config}
use Rattle.ld_msg.specs.declared.msg.What.{What}
use Rattle.ld_msg.specs.declared.msg.What.TheVariants.{Rec}
use Rattle.ld_msg.specs.declared.msg.Summary.{Summary}
use Rattle.ld_msg.specs.declared.msg.Msg.{Msg}
use Rattle.ld_msg.specs.declared.msg.Body.TheVariants as bodies
use Rattle.ld_msg.specs.Network.{oldest_new}
use Rattle.ld_msg.specs.Register.{lce_of}
use Rattle.ld_msg.specs.Digest.{Told, enough, is_spent}
use Rattle.ld_msg.specs.Sequencer.{Sequencer, Append, Recovery, Stage, Seals, Stores, Closes, Storing, Planned, is_acked, is_ready, is_ready_short, is_fully_ready}
use Rattle.ld_machine.specs.State.{State}
use Rattle.ld_machine.specs.World.{In, from_node, to_node_of}
use Rattle.ld_safety.proofs.Votes.{in_of}
use Rattle.ld_safety.proofs.SequencerSteps.{is_closing}
use Rattle.ld_served.proofs.Waiting.{Asked, asked_on, page_comes, says_clean, AllAsked, Chosen, ItemsGo, to_enough, to_all}
use Rattle.ld_served.proofs.Waits.{Waiting, FirstWaits}
use Rattle.ld_served.proofs.Losing.{fits_in}
use Rattle.ld_served.proofs.UnderWay.{UnderWay, none_new}
use Rattle.ld_served.proofs.Last.{LastOf}
use Rattle.ld_served.proofs.Free.{open_still}
use Rattle.ld_served.proofs.Kept.{Good}

-- ---- what is under way ----

-- an item of a plan goes to the node, or the node's answer comes
pub data StoreGoes (N : Msg → Type 0) (l b n : ℕ) (x : What) (y : ℕ) : Type 0 where
  store_goes : (lng : ℕ) → N (to_node_of l b y (bodies.Store n lng x)) → StoreGoes N l b n x y
  stored_comes : N (from_node l y b (bodies.Stored n)) → StoreGoes N l b n x y
  trim_comes : (t : ℕ) → n ≤ t → N (from_node l y b (bodies.TrimmedHere n t)) → StoreGoes N l b n x y
  clean_comes : (z : Summary) → N (from_node l y b (bodies.CleanHere n z)) → StoreGoes N l b n x y

-- the node settled it, or it goes
abbrev pub ItemGoes : (Msg → Type 0) → ℕ → ℕ → ℕ × Planned → ℕ → Type 0
ItemGoes N l b i y = (is_in y i.1.settled ≡ true) ⊎ StoreGoes N l b i.0 i.1.what y

-- an append goes to the node, or the node's answer comes
pub data AppendGoes (N : Msg → Type 0) (l b : ℕ) (p : ℕ × Append) (y : ℕ) : Type 0 where
  is_stored : is_in y p.1.stored ≡ true → AppendGoes N l b p y
  append_goes : (lng : ℕ) → N (to_node_of l b y (bodies.Store p.0 lng (Rec p.1.payload))) → AppendGoes N l b p y
  ack_comes : N (from_node l y b (bodies.Stored p.0)) → AppendGoes N l b p y

-- all that it waits for is under way: what its digest lacks, the items of its plan, which isn't ready, and its appends that aren't acknowledged; and it waits for no close
pub record Goes (N : Msg → Type 0) (q : Sequencer) : Type 0 where
  pub seals : (v : Recovery) (d : List Told) → q.recovery ≡ Some v → v.stage ≡ Seals d → AllAsked N q.log q.epoch v.epoch d
  pub stores : (v : Recovery) (g : Storing) → q.recovery ≡ Some v → v.stage ≡ Stores g → (is_closing v g ≡ false) × ItemsGo v.spec v.lost g.loss g.items (ItemGoes N q.log q.epoch)
  pub closes : (v : Recovery) (y : Summary) (short : Bool) → q.recovery ≡ Some v → v.stage ≡ Closes y short → ⊥
  pub appends : (p : ℕ × Append) → In p q.appends → is_acked q.spec p.1 ≡ false → Chosen q.spec (AppendGoes N q.log q.epoch p)

-- ---- where nothing is ----
module _ (N : Msg → Type 0) (none : (m : Msg) → N m → ⊥) (q : Sequencer) (G : Goes N q) where
  not_asked : (e : ℕ) (t : Told) → Asked N q.log q.epoch e t → ⊥
  not_asked e t (asked_on n) = none _ n
  not_asked e t (page_comes upto trim lng es n) = none _ n
  not_asked e t (says_clean n y h k) = none _ k

  settled_so : (i : ℕ × Planned) (y : ℕ) → ItemGoes N q.log q.epoch i y → is_in y i.1.settled ≡ true
  settled_so i y (inl h) = h
  settled_so i y (inr (store_goes lng n)) = absurd (none _ n)
  settled_so i y (inr (stored_comes n)) = absurd (none _ n)
  settled_so i y (inr (trim_comes t h n)) = absurd (none _ n)
  settled_so i y (inr (clean_comes z n)) = absurd (none _ n)

  stored_so : (p : ℕ × Append) (y : ℕ) → AppendGoes N q.log q.epoch p y → is_in y p.1.stored ≡ true
  stored_so p y (is_stored h) = h
  stored_so p y (append_goes lng n) = absurd (none _ n)
  stored_so p y (ack_comes n) = absurd (none _ n)

  -- as many as are needed
  chosen_all : (s : Spec) (ys : List ℕ) (P : ℕ → Type 0) → ((y : ℕ) → P y → is_in y ys ≡ true) → Chosen s P → s.r ≤ length ys
  chosen_all s ys P f h = let a = h.enough in let b = fits_in h.nodes ys h.apart (λ y i. in_of y ys (f y (h.each y i))) in omega arith

  all_by : {X : Type 0} (p : X → Bool) (xs : List X) → ((x : X) → In x xs → p x ≡ true) → all_of p xs ≡ true
  all_by p [] h = refl
  all_by p (x ∷ xs) h = and_from (p x) (all_of p xs) (h x (inl refl)) (all_by p xs (λ y i. h y (inr i)))

  -- no digest is asked on
  no_seals : Waiting q → q.preempted ≡ None → (v : Recovery) (d : List Told) → q.recovery ≡ Some v → v.stage ≡ Seals d → ⊥
  unfolding is_spent
  no_seals W f v d e k =
      let asking = W.digest f v e d k in
      let whole : all_of (λ (t : Told). t.whole || t.lost) d ≡ true = all_by (λ (t : Told). t.whole || t.lost) d (λ t i. elim (cases_Bool t.whole) [ inl h ↦ or_left t.whole t.lost h | inr h ↦ absurd (not_asked v.epoch t (G.seals v d e k t i h)) ]) in
      let spent : (all_of (λ (t : Told). t.whole || t.lost) d && not (enough v.spec d)) ≡ true = and_from _ _ whole (ap not asking.0) in
      let z : true ≡ false = sym spent ∙ asking.1 in cc

  -- no plan is stored
  no_stores : (v : Recovery) (g : Storing) → q.recovery ≡ Some v → v.stage ≡ Stores g → ⊥
  unfolding is_ready is_ready_short
  no_stores v g e k = by_items (G.stores v g e k).0 (G.stores v g e k).1 where
    by_items : is_closing v g ≡ false → ItemsGo v.spec v.lost g.loss g.items (ItemGoes N q.log q.epoch) → ⊥
    by_items c (to_enough l h) =
        let ready : is_ready v.spec g ≡ true = all_by (λ (i : ℕ × Planned). nat_le v.spec.r (length i.1.settled)) g.items (λ i j. elim (cases_Bool (nat_lt (length i.1.settled) v.spec.r)) [ inl t ↦ le-leb _ _ (chosen_all v.spec i.1.settled (ItemGoes N q.log q.epoch i) (settled_so i) (h i j t)) | inr t ↦ le-leb _ _ (ltb-false _ _ t) ]) in
        let full : is_fully_ready v.spec g ≡ true = and_from (not g.loss) (is_ready v.spec g) (ap not l) ready in
        let z : true ≡ false = sym (or_left (is_fully_ready v.spec g) (is_ready_short v.spec v.lost g) full) ∙ c in cc
    by_items c (to_all h) =
        let short : is_ready_short v.spec v.lost g ≡ true = all_by (λ (i : ℕ × Planned). all_of (λ y. is_in y i.1.settled || is_in y v.lost) (nodes_of v.spec)) g.items (λ i j. all_by (λ y. is_in y i.1.settled || is_in y v.lost) (nodes_of v.spec) (λ y n. elim (h i j y n) [
          | inl a ↦ or_right (is_in y i.1.settled) (is_in y v.lost) a
          | inr (inl a) ↦ or_left (is_in y i.1.settled) (is_in y v.lost) a
          | inr (inr a) ↦ or_left (is_in y i.1.settled) (is_in y v.lost) (settled_so i y a)
        ])) in
        let z : true ≡ false = sym (or_right (is_fully_ready v.spec g) (is_ready_short v.spec v.lost g) short) ∙ c in cc

  pub no_recovery : Waiting q → q.preempted ≡ None → q.recovery ≡ None
  no_recovery W f = by_recovery q.recovery refl where
    by_stage : (v : Recovery) → q.recovery ≡ Some v → (g : Stage) → v.stage ≡ g → ⊥
    by_stage v e (Seals d) k = no_seals W f v d e k
    by_stage v e (Stores g) k = no_stores v g e k
    by_stage v e (Closes y short) k = G.closes v y short e k

    by_recovery : (o : Option Recovery) → q.recovery ≡ o → o ≡ None
    by_recovery None e = refl
    by_recovery (Some v) e = absurd (by_stage v e v.stage refl)

  pub no_appends : Waiting q → q.appends ≡ []
  no_appends W = by_appends q.appends refl where
    by_appends : (ps : List (ℕ × Append)) → q.appends ≡ ps → ps ≡ []
    by_appends [] e = refl
    by_appends (p ∷ ps) e = absurd (
        let waits : is_acked q.spec p.1 ≡ false = subst (FirstWaits q.spec) e W.first in
        let acked : is_acked q.spec p.1 ≡ true = le-leb _ _ (chosen_all q.spec p.1.stored (AppendGoes N q.log q.epoch p) (stored_so p) (G.appends p (subst (In p) (sym e) (inl refl)) waits)) in
        let z : true ≡ false = sym acked ∙ waits in cc)

-- when all messages are delivered, the log's last sequencer has no append that waits, and all epochs before its own are closed
pub drained : (c : Config) (s : State) (A : Good c s) (l : ℕ) (name : List ℕ) (q : Sequencer) → LastOf s.sequencers l name q → Goes (UnderWay s.network) q → oldest_new s.network ≡ None → (q.appends ≡ []) × (lce_of s.register q.log + 1 ≡ q.epoch)
drained c s A l name q L G e =
    let K = A.of_run.known in
    let none = λ (m : Msg) (u : UnderWay s.network m). none_new s.network m e u in
    let W = K.waiting name q L.named in
    let over : q.epoch ≤ q.lce + 1 = K.over name q L.named (no_recovery (UnderWay s.network) none q G W (A.free l name q L).free) in
    let low = (K.lined.0.1.acks name q L.named).closed in
    let top = open_still c A.of_run.steps (record { state = s; made = A.of_run.made; joined = A.of_run.joined }) K A.healthy.nodes l name q L in (no_appends (UnderWay s.network) none q G W, omega arith)
