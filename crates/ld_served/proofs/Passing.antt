-- A delivery to a node, or to anyone but a log's last sequencer, leaves all under way that this one waits for: what a node is asked it answers.
use Rattle.std.proofs.Common.{◌≡◌, ◌∙◌, ◌⊎◌, ◌≤◌, ◌<◌, ℕ, ◌+◌, inl, inr, refl, ap, sym, subst, Bool, false, nat_lt, List, Some, is_some, arith}
use Rattle.std.proofs.lemmas.Bool.{cases_lt, ltb-true}
use Rattle.ld_table.specs.Named.{find_named}
use Rattle.ld_lsn.specs.Number.{epoch_of, esn_of, numbered, home_epoch, epoch_end}
use Rattle.ld_ids.specs.Choice.{nodes_of}
use Rattle.ld_ids.specs.declared.set.Spec.{Spec}
use Rattle.ld_config.specs.declared.config.Config.{Config}
use Rattle.ld_schedule.specs.declared.event.Event.TheVariants as events
use Rattle.ld_msg.specs.declared.msg.What.{What}
use Rattle.ld_msg.specs.declared.msg.What.TheVariants.{Rec}
use Rattle.ld_msg.specs.declared.msg.Summary.{Summary}
use Rattle.ld_msg.specs.declared.msg.Who.TheVariants as whos
use Rattle.ld_msg.specs.declared.msg.Msg.{Msg}
use Rattle.ld_msg.specs.declared.msg.Body.{Body}
use Rattle.ld_msg.specs.declared.msg.Body.TheVariants as bodies
use Rattle.ld_msg.specs.Network.{message}
use Rattle.ld_msg.specs.Digest.{Told}
use Rattle.ld_msg.specs.Sequencer.{Sequencer, Append, Recovery, Seals, Planned, released_of}
use Rattle.ld_op.specs.Plain.{log_of, summary_at}
use Rattle.ld_machine.specs.Config.{all_nodes}
use Rattle.ld_machine.specs.State.{State, node_at}
use Rattle.ld_machine.specs.World.{World, In, from_node, to_node_of}
use Rattle.ld_machine.specs.Step as Step
use Rattle.ld_machine.specs.Calm.{Takes, moved}
use Rattle.ld_safety.proofs.Lists.{Some_inj, cond_both}
use Rattle.ld_safety.proofs.Appends.{row_bounds}
use Rattle.ld_safety.proofs.Base.{counts_of}
use Rattle.ld_safety.proofs.LostJoined.{summaries_here}
use Rattle.ld_safety.proofs.Given.{AnyEpoch, AnyShown, SmallGood, GivenEntry}
use Rattle.ld_safety.proofs.Carried as carried
use Rattle.ld_calm.proofs.Sets.{SpecIn, RecoveryIn}
use Rattle.ld_served.proofs.Phases.{Unlimited}
use Rattle.ld_served.proofs.Waiting.{Asked, asked_on, page_comes, says_clean, Chosen, ItemsGo, to_enough, to_all}
use Rattle.ld_served.proofs.Last.{LastOf}
use Rattle.ld_served.proofs.Low.{LowSummary, trim_low}
use Rattle.ld_served.proofs.Rises.{Low}
use Rattle.ld_served.proofs.Losing.{in_map, digest_nodes}
use Rattle.ld_served.proofs.Free.{home_of, open_still, closed_so, clean_found}
use Rattle.ld_served.proofs.Kept.{Good}
use Rattle.ld_served.proofs.UnderWay.{UnderWay, delivery_takes}
use Rattle.ld_served.proofs.Replying.{AskAnswer, page_told, clean_told, StoreAnswer, stored_told, trimmed_told, closed_told, ask_answer, store_answer_so, answer_goes, names}
use Rattle.ld_served.proofs.Going.{StoreGoes, store_goes, stored_comes, trim_comes, clean_comes, ItemGoes, AppendGoes, is_stored, append_goes, ack_comes, Goes}

-- where it goes to others
pub map_chosen : (s : Spec) (P Q : ℕ → Type 0) → ((y : ℕ) → In y (nodes_of s) → P y → Q y) → Chosen s P → Chosen s Q
map_chosen s P Q f h = record { nodes = h.nodes; apart = h.apart; members = h.members; enough = h.enough; each = λ y i. f y (h.members y i) (h.each y i) }

pub map_items : (s : Spec) (lost : List ℕ) (loss : Bool) (is : List (ℕ × Planned)) (P Q : ℕ × Planned → ℕ → Type 0) → ((i : ℕ × Planned) → In i is → (y : ℕ) → In y (nodes_of s) → P i y → Q i y) → ItemsGo s lost loss is P → ItemsGo s lost loss is Q
map_items s lost loss is P Q f (to_enough l h) = to_enough l (λ i j t. map_chosen s (P i) (Q i) (f i j) (h i j t))
map_items s lost loss is P Q f (to_all h) = to_all (λ i j y n. elim (h i j y n) [ inl a ↦ inl a | inr (inl a) ↦ inr (inl a) | inr (inr a) ↦ inr (inr (f i j y n a)) ])

module _ (c : Config) (s : State) (A : Good c s) (l : ℕ) (name : List ℕ) (q : Sequencer) (L : LastOf s.sequencers l name q) where
  -- ---- what is known of it ----

  nodes_in : (y : ℕ) → In y (nodes_of q.spec) → In y (all_nodes c)
  nodes_in = (A.of_run.known.setting.1.2 name q L.named).0

  recovered_in : (v : Recovery) → q.recovery ≡ Some v → SpecIn c v.spec
  recovered_in v e = subst (RecoveryIn c) e (A.of_run.known.setting.1.2 name q L.named).1

  -- its appends stand above what is released
  above : (p : ℕ × Append) → In p q.appends → numbered q.epoch (q.lng + 1) ≤ p.0
  above p i = (row_bounds (numbered q.epoch (q.lng + 1)) q.appends p (counts_of c A.of_run.steps (record { state = s; made = A.of_run.made; joined = A.of_run.joined }) A.of_run.known.lined.0.0.0 name q L.named).row i).0

  own_number : (p : ℕ × Append) → In p q.appends → (epoch_of p.0 ≡ q.epoch) × (0 < esn_of p.0)
  own_number p i = let f = (A.of_run.known.lined.0.1.acks name q L.named).appends p i in (f.epoch, f.above)

  -- no trim is as high as one of its appends
  not_low : (n : ℕ) → numbered q.epoch (q.lng + 1) ≤ n → (t : ℕ) → Low s.sequencers q.log t → n ≤ t → ⊥
  not_low n a t (inl z) h = omega arith
  not_low n a t (inr r) h = elim (cases_lt r.sequencer.epoch q.epoch) [
    | inl lt ↦ (let z = before lt in let m = r.most in omega arith)
    | inr ge ↦ (
        let up = L.most r.name r.sequencer r.named (r.log ∙ L.log) in
        let one : r.name ≡ name = A.of_run.known.lined.0.0.0.0.1.epochs.once r.name name r.sequencer q r.named L.named r.log (omega arith) in
        let is : r.sequencer ≡ q = Some_inj (sym r.named ∙ (ap (λ k. find_named k s.sequencers) one ∙ L.named)) in
        let m : t ≤ released_of q = subst (λ x. t ≤ released_of x) is r.most in
        let z = own_most in omega arith)
  ] where
    own_most : released_of q ≤ numbered q.epoch q.lng
    own_most = cond_both (nat_lt (q.lce + 1) q.epoch) (epoch_end q.lce) (numbered q.epoch q.lng) (λ x. x ≤ numbered q.epoch q.lng) (λ t. let k = ltb-true (q.lce + 1) q.epoch t in omega arith) (λ t. omega arith)

    before : r.sequencer.epoch < q.epoch → released_of r.sequencer ≤ numbered q.epoch 0
    before lt = let u = (counts_of c A.of_run.steps (record { state = s; made = A.of_run.made; joined = A.of_run.joined }) A.of_run.known.lined.0.0.0 r.name r.sequencer r.named).small in
        cond_both (nat_lt (r.sequencer.lce + 1) r.sequencer.epoch) (epoch_end r.sequencer.lce) (numbered r.sequencer.epoch r.sequencer.lng) (λ x. x ≤ numbered q.epoch 0) (λ t. let k = ltb-true (r.sequencer.lce + 1) r.sequencer.epoch t in omega arith) (λ t. omega arith)

  not_trimmed : (p : ℕ × Append) → In p q.appends → (y : ℕ) → p.0 ≤ (log_of (node_at s y).plain q.log).trim → ⊥
  not_trimmed p i y h = not_low p.0 (above p i) (log_of (node_at s y).plain q.log).trim (trim_low c A.of_run.steps (record { state = s; made = A.of_run.made; joined = A.of_run.joined }) A.of_run.known.low y q.log) h

  -- and its own epoch is clean nowhere
  not_clean : (y : ℕ) (z : Summary) → summary_at (log_of (node_at s y).plain q.log) q.epoch ≡ Some z → ⊥
  not_clean y z h =
      let K = A.of_run.known in
      let v : World = record { state = s; made = A.of_run.made; joined = A.of_run.joined } in
      let positive : 0 < q.epoch = K.lined.0.0.0.0.1.epochs.positive name q L.named in
      let f = clean_found c A.of_run.steps v K A.healthy.nodes (log_of (node_at s y).plain q.log) q.epoch positive (ap is_some h) in
      let k = summaries_here c A.of_run.steps v K.lined.0 y q.log q.epoch (node_at s y).plain f.0 (inl refl) positive f.1 in
      let low = (closed_so c A.of_run.steps v K A.healthy.nodes q.log q.epoch f.0 positive k.0).low in
      let top = open_still c A.of_run.steps v K A.healthy.nodes l name q L in omega arith

  -- what it asks is of the epoch
  asked_place : (v : Recovery) (d : List Told) → q.recovery ≡ Some v → v.stage ≡ Seals d → (t : Told) → In t d → t.whole ≡ false → home_epoch t.asked ≡ v.epoch
  asked_place v d e k t i h =
      let o = (A.of_run.known.low.sequencers name q L.named).recovery in
      let z = subst (carried.StageOk (GivenEntry A.of_run.steps) (Low s.sequencers) (LowSummary s.sequencers) AnyEpoch AnyShown (Low s.sequencers) (GivenEntry A.of_run.steps) SmallGood q.log q.epoch v.epoch) k
      (subst (carried.RecoveryOk (GivenEntry A.of_run.steps) (Low s.sequencers) (LowSummary s.sequencers) AnyEpoch AnyShown (Low s.sequencers) (GivenEntry A.of_run.steps) SmallGood q.log q.epoch) e o).1 in
      let p = (z t i).asks h in home_of t.asked p.0 ∙ p.1

  told_in : (v : Recovery) (d : List Told) → q.recovery ≡ Some v → v.stage ≡ Seals d → (t : Told) → In t d → In t.node (nodes_of v.spec)
  told_in v d e k t i = subst (In t.node) (digest_nodes c A.of_run.steps (record { state = s; made = A.of_run.made; joined = A.of_run.joined }) A.of_run.known.lined name q L.named v d e k) (in_map t d i)

  -- ---- a delivery to another one ----
  module _ (i : ℕ) (k : Msg) (e : message s.network i ≡ Some k) (others : k.to ≡ whos.Sequencer q.epoch → k.log ≡ q.log → ⊥) (u : Unlimited (moved c s (Takes (events.Deliver i))).lines) where
    abbrev before : Msg → Type 0
    before m = UnderWay s.network m

    abbrev after : Msg → Type 0
    after m = UnderWay (moved c s (Takes (events.Deliver i))).state.network m

    takes : (m : Msg) → before m → (m ≡ k) ⊎ after m
    takes m n = delivery_takes c s (names c s A) A.of_run.known.places i k m e n

    -- what comes to it stays
    comes : (y : ℕ) (b : Body) → before (from_node q.log y q.epoch b) → after (from_node q.log y q.epoch b)
    comes y b n = elim (takes _ n) [ inl z ↦ absurd (others (ap (λ (m : Msg). m.to) (sym z)) (ap (λ (m : Msg). m.log) (sym z))) | inr a ↦ a ]

    -- an ask is answered
    ask_after : (x : ℕ) (t : Told) → home_epoch t.asked ≡ x → message s.network i ≡ Some (to_node_of q.log q.epoch t.node (bodies.DigestAsk t.asked)) → In t.node (all_nodes c)
        → AskAnswer t.asked (Step.node_handles t.node (node_at s t.node) (to_node_of q.log q.epoch t.node (bodies.DigestAsk t.asked))).answer → Asked after q.log q.epoch x t
    ask_after x t home at node (page_told upto trim lng es h) = page_comes upto trim lng es (answer_goes c s A l name q L t.node node i (bodies.DigestAsk t.asked) (bodies.DigestPage t.asked upto trim lng es) at h u)
    ask_after x t home at node (clean_told y h) = says_clean t.asked y home (answer_goes c s A l name q L t.node node i (bodies.DigestAsk t.asked) (bodies.CleanHere t.asked y) at h u)

    asked_after : (x : ℕ) (t : Told) → In t.node (all_nodes c) → home_epoch t.asked ≡ x → Asked before q.log q.epoch x t → Asked after q.log q.epoch x t
    asked_after x t node home (asked_on n) = elim (takes _ n) [ inl z ↦ ask_after x t home (e ∙ ap Some (sym z)) node (ask_answer c s A l name q L t.node node t.asked) | inr a ↦ asked_on a ]
    asked_after x t node home (page_comes upto trim lng es n) = page_comes upto trim lng es (comes t.node _ n)
    asked_after x t node home (says_clean n y h m) = says_clean n y h (comes t.node _ m)

    -- and so is a store
    store_after : (n lng : ℕ) (x : What) (y : ℕ) → message s.network i ≡ Some (to_node_of q.log q.epoch y (bodies.Store n lng x)) → In y (all_nodes c)
        → StoreAnswer (log_of (node_at s y).plain q.log) n (Step.node_handles y (node_at s y) (to_node_of q.log q.epoch y (bodies.Store n lng x))).answer → StoreGoes after q.log q.epoch n x y
    store_after n lng x y at node (stored_told h) = stored_comes (answer_goes c s A l name q L y node i (bodies.Store n lng x) (bodies.Stored n) at h u)
    store_after n lng x y at node (trimmed_told t h) = trim_comes (log_of (node_at s y).plain q.log).trim t (answer_goes c s A l name q L y node i (bodies.Store n lng x) (bodies.TrimmedHere n (log_of (node_at s y).plain q.log).trim) at h u)
    store_after n lng x y at node (closed_told z f h) = clean_comes z (answer_goes c s A l name q L y node i (bodies.Store n lng x) (bodies.CleanHere n z) at h u)

    goes_after : (n : ℕ) (x : What) (y : ℕ) → In y (all_nodes c) → StoreGoes before q.log q.epoch n x y → StoreGoes after q.log q.epoch n x y
    goes_after n x y node (store_goes lng m) = elim (takes _ m) [ inl z ↦ store_after n lng x y (e ∙ ap Some (sym z)) node (store_answer_so c s A l name q L y node n lng x) | inr a ↦ store_goes lng a ]
    goes_after n x y node (stored_comes m) = stored_comes (comes y _ m)
    goes_after n x y node (trim_comes t h m) = trim_comes t h (comes y _ m)
    goes_after n x y node (clean_comes z m) = clean_comes z (comes y _ m)

    -- an append is stored, as nothing as high is trimmed, and its epoch is open
    append_answer : (p : ℕ × Append) → In p q.appends → (lng y : ℕ) → message s.network i ≡ Some (to_node_of q.log q.epoch y (bodies.Store p.0 lng (Rec p.1.payload))) → In y (all_nodes c)
        → StoreAnswer (log_of (node_at s y).plain q.log) p.0 (Step.node_handles y (node_at s y) (to_node_of q.log q.epoch y (bodies.Store p.0 lng (Rec p.1.payload)))).answer → AppendGoes after q.log q.epoch p y
    append_answer p j lng y at node (stored_told h) = ack_comes (answer_goes c s A l name q L y node i (bodies.Store p.0 lng (Rec p.1.payload)) (bodies.Stored p.0) at h u)
    append_answer p j lng y at node (trimmed_told t h) = absurd (not_trimmed p j y t)
    append_answer p j lng y at node (closed_told z f h) = absurd (not_clean y z (subst (λ x. summary_at (log_of (node_at s y).plain q.log) x ≡ Some z) (own_number p j).0 f))

    append_after : (p : ℕ × Append) → In p q.appends → (y : ℕ) → In y (all_nodes c) → AppendGoes before q.log q.epoch p y → AppendGoes after q.log q.epoch p y
    append_after p j y node (is_stored h) = is_stored h
    append_after p j y node (append_goes lng m) = elim (takes _ m) [ inl z ↦ append_answer p j lng y (e ∙ ap Some (sym z)) node (store_answer_so c s A l name q L y node p.0 lng (Rec p.1.payload)) | inr a ↦ append_goes lng a ]
    append_after p j y node (ack_comes m) = ack_comes (comes y _ m)

    pub passes_on : Goes before q → Goes after q
    passes_on G = record {
      seals = λ v d f g t j h. asked_after v.epoch t (recovered_in v f t.node (told_in v d f g t j)) (asked_place v d f g t j h) (G.seals v d f g t j h);
      stores = λ v g f h. (let z = G.stores v g f h in (z.0, map_items v.spec v.lost g.loss g.items (ItemGoes before q.log q.epoch) (ItemGoes after q.log q.epoch) (λ x j y n o. elim o [ inl a ↦ inl a | inr a ↦ inr (goes_after x.0 x.1.what y (recovered_in v f y n) a) ]) z.1));
      closes = G.closes;
      appends = λ p j t. map_chosen q.spec (AppendGoes before q.log q.epoch p) (AppendGoes after q.log q.epoch p) (λ y n o. append_after p j y (nodes_in y n) o) (G.appends p j t);
    }
