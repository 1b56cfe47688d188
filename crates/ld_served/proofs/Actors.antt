-- Each message of a sequencer is of one that is there, dropped or not.
use Rattle.std.proofs.Common.{◌≡◌, ◌∙◌, ℕ, inl, inr, refl, ap, sym, subst, cond, List, [], ◌∷◌, Option, Some, None}
use Rattle.ld_table.specs.Named.{same, find_named, put_named}
use Rattle.ld_config.specs.declared.config.Config.{Config}
use Rattle.ld_msg.specs.declared.msg.Who.{Who}
use Rattle.ld_msg.specs.declared.msg.Who.TheVariants as whos
use Rattle.ld_msg.specs.declared.msg.Msg.{Msg}
use Rattle.ld_msg.specs.declared.msg.Body.{Body}
use Rattle.ld_msg.specs.Sequencer.{Sequencer, activated}
use Rattle.ld_op.specs.declared.op.Op.{Op}
use Rattle.ld_op.specs.Handles.{answer_message}
use Rattle.ld_op.specs.Ticks.{Ticked, Cleans, Rebuilt, Asks, Nothing}
use Rattle.ld_machine.specs.Disk.{Kept, Written, DiskFailed, Crashed, JournalFull}
use Rattle.ld_machine.specs.State.{State, Done, finish, with_node, posted, node_at}
use Rattle.ld_machine.specs.World.{In}
use Rattle.ld_machine.specs.Step as Step
use Rattle.ld_machine.specs.Calm.{Move, moved}
use Rattle.ld_safety.proofs.Lists.{Some_inj, not_none, not_both}
use Rattle.ld_safety.proofs.Names.{named_cases}
use Rattle.ld_safety.proofs.Traces.{Keeps, beside_kept}
use Rattle.ld_safety.proofs.Steps.{sent_by}
use Rattle.ld_safety.proofs.Events.{Cases, NamesOnce, dispatch, refreshed}
use Rattle.ld_safety.proofs.Base.{Base, base_kept, counts_of}
use Rattle.ld_safety.proofs.Appends.{RowOf}
use Rattle.ld_safety.proofs.Continues.{reply_continues, retry_continues}
use Rattle.ld_table.proofs.NameLaws.{same-self}

-- a log's sequencer of an epoch is there
pub record Here (qs : List (List ℕ × Sequencer)) (l b : ℕ) : Type 0 where
  pub name : List ℕ
  pub sequencer : Sequencer
  pub named : find_named name qs ≡ Some sequencer
  pub log : sequencer.log ≡ l
  pub epoch : sequencer.epoch ≡ b

abbrev pub AllHere : List (List ℕ × Sequencer) → List Msg → Type 0
AllHere qs ms = (m : Msg) → In m ms → (b : ℕ) → m.from ≡ whos.Sequencer b → Here qs m.log b

-- one that goes on under its name stays
here_put : (qs : List (List ℕ × Sequencer)) (name : List ℕ) (q p : Sequencer) (l b : ℕ) → find_named name qs ≡ Some q → p.log ≡ q.log → p.epoch ≡ q.epoch → Here qs l b → Here (put_named name p qs) l b
here_put qs name q p l b f lg ep h = elim (named_cases h.name name p qs) [
  | inl e ↦ (let z : q ≡ h.sequencer = Some_inj (sym f ∙ (ap (λ k. find_named k qs) (sym e.0) ∙ h.named)) in
      record { name = h.name; sequencer = p; named = e.1; log = lg ∙ (ap (λ (x : Sequencer). x.log) z ∙ h.log); epoch = ep ∙ (ap (λ (x : Sequencer). x.epoch) z ∙ h.epoch) })
  | inr e ↦ record { name = h.name; sequencer = h.sequencer; named = e.1 ∙ h.named; log = h.log; epoch = h.epoch }
]

-- a new name takes no one's place
here_new : (qs : List (List ℕ × Sequencer)) (name : List ℕ) (p : Sequencer) (l b : ℕ) → find_named name qs ≡ None → Here qs l b → Here (put_named name p qs) l b
here_new qs name p l b f h = elim (named_cases h.name name p qs) [
  | inl e ↦ absurd (not_none (sym f ∙ (ap (λ k. find_named k qs) (sym e.0) ∙ h.named)))
  | inr e ↦ record { name = h.name; sequencer = h.sequencer; named = e.1 ∙ h.named; log = h.log; epoch = h.epoch }
]

now_here : (qs : List (List ℕ × Sequencer)) (name : List ℕ) (p : Sequencer) → Here (put_named name p qs) p.log p.epoch
now_here qs name p = elim (named_cases name name p qs) [
  | inl e ↦ record { name = name; sequencer = p; named = e.1; log = refl; epoch = refl }
  | inr e ↦ absurd (not_both (same name name) (same-self name) e.0)
]

-- ---- every step ----

module _ (c : Config) (s : State) (e : Move) (rows : (name : List ℕ) (q : Sequencer) → find_named name s.sequencers ≡ Some q → RowOf q) where
  abbrev Still : Done → Type 0
  Still d = (l b : ℕ) → Here s.sequencers l b → Here d.state.sequencers l b

  goes_on : (name : List ℕ) (q p : Sequencer) → find_named name s.sequencers ≡ Some q → p.log ≡ q.log → p.epoch ≡ q.epoch → (l b : ℕ) → Here s.sequencers l b → Here (put_named name p s.sequencers) l b
  goes_on name q p f lg ep l b h = here_put s.sequencers name q p l b f lg ep h

  still_cases : Cases c s e (λ d m. Still d)
  unfolding activated
  still_cases = record {
    still = λ f older i l b h. h;
    says = λ x q l b h. h;
    node_hears = λ f older n m i t v o. handled f n m (Step.node_handles n (node_at s n) m).op (Step.node_handles n (node_at s n) m).answer;
    loads = λ n ls q a o l b h. h;
    draw_fails = λ n a l b h. h;
    formats = λ n r g a v i l b h. h;
    ticks = λ n l t v i o. ticked n l t;
    stops = λ n a l b h. h;
    wipes = λ n l b h. h;
    faults = λ n f o l b h. h;
    sets = λ k r x set g l b h. h;
    swaps = λ n m k x r q i l b h. h;
    arms = λ k done o l b h. h;
    hears = λ f older name q m i t g v o. let z = reply_continues c s q (rows name q v.named) name (Step.sender_node m.from) m.body v.there in goes_on name q _ v.named z.log z.epoch;
    retries = λ again name q v o. let z = retry_continues c s q (rows name q v.named) v.there in goes_on name q _ v.named z.log z.epoch;
    appends = λ name q p v a i. goes_on name q _ v.named refl refl;
    trims = λ name q t v a l b h. h;
    drops = λ name q v o. goes_on name q _ v.named refl refl;
    activates = λ name k r g n i x l b h. here_new s.sequencers name _ l b n h;
    activate_fails = λ name k x g q l b h. h;
    answers = λ f older name d m i t v o l b h. h;
    polls = λ name d v o l b h. h;
    opens = λ style name k from until o x l b h. h;
  } where
    handled : (f : List ℕ) (n : ℕ) (m : Msg) (o : Option Op) (b : Option Body) → Still (Step.handles (with_node (refreshed s f) n (Step.releases (node_at s n) m.log m.body)) n m o b)
    handled f n m None b l k h = h
    handled f n m (Some o) b l k h = h

    ticked : (n l : ℕ) (t : Ticked) → Still (Step.ticks_as c s n l t)
    ticked n l (Cleans k y) j b h = h
    ticked n l Rebuilt j b h = h
    ticked n l (Asks from) j b h = h
    ticked n l Nothing j b h = h

  -- no sequencer goes
  pub here_stays : NamesOnce s → (l b : ℕ) → Here s.sequencers l b → Here (moved c s e).state.sequencers l b
  unfolding finish
  here_stays N = dispatch c s e (λ d m. Still d) N still_cases

-- ---- who sends what ----
pub posted_by : (who : Who) (l : ℕ) (bs : List (ℕ × Body)) (m : Msg) → In m (posted who l bs) → (m.from ≡ who) × (m.log ≡ l)
posted_by who l [] m i = absurd i
posted_by who l (b ∷ bs) m (inl e) = (ap (λ (x : Msg). x.from) e, ap (λ (x : Msg). x.log) e)
posted_by who l (b ∷ bs) m (inr i) = posted_by who l bs m i

abbrev NoneOf : List Msg → Type 0
NoneOf ms = (m : Msg) → In m ms → (b : ℕ) → m.from ≡ whos.Sequencer b → ⊥

none_of : NoneOf []
none_of m i b f = absurd i

answer_none : (n : ℕ) (m : Msg) (o : Option Body) → NoneOf (answer_message n m o)
answer_none n m None x i b f = absurd i
answer_none n m (Some z) x (inl e) b f = let g : whos.Node n ≡ whos.Sequencer b = sym (ap (λ (y : Msg). y.from) e) ∙ f in cc
answer_none n m (Some z) x (inr i) b f = absurd i

node_none : (n l : ℕ) (bs : List (ℕ × Body)) → NoneOf (posted (whos.Node n) l bs)
node_none n l bs m i b f = let g : whos.Node n ≡ whos.Sequencer b = sym (posted_by (whos.Node n) l bs m i).0 ∙ f in cc

reader_none : (r l : ℕ) (bs : List (ℕ × Body)) → NoneOf (posted (whos.Reader r) l bs)
reader_none r l bs m i b f = let g : whos.Reader r ≡ whos.Sequencer b = sym (posted_by (whos.Reader r) l bs m i).0 ∙ f in cc

if_written : (k : Kept) (ms : List Msg) → NoneOf ms → NoneOf (cond (Step.is_written k) ms [])
if_written Written ms h = h
if_written DiskFailed ms h = none_of
if_written Crashed ms h = none_of
if_written JournalFull ms h = none_of

module _ (c : Config) (s : State) (e : Move) (rows : (name : List ℕ) (q : Sequencer) → find_named name s.sequencers ≡ Some q → RowOf q) (H : AllHere s.sequencers s.network.sent) where
  abbrev pub Result : Done → Type 0
  Result d = AllHere (finish d).state.sequencers (finish d).state.network.sent

  -- what was sent before is of one that stays
  goes : (d : Done) → d.state.network.sent ≡ s.network.sent → ((l b : ℕ) → Here s.sequencers l b → Here d.state.sequencers l b) → AllHere d.state.sequencers d.sends → Result d
  unfolding finish
  goes d n k f m i b fr = elim (sent_by d m i) [ inl a ↦ k m.log b (H m (subst (λ ms. In m ms) n a) b fr) | inr a ↦ f m a b fr ]

  others : (d : Done) → d.state.network.sent ≡ s.network.sent → d.state.sequencers ≡ s.sequencers → NoneOf d.sends → Result d
  others d n q f = goes d n (λ l b h. subst (λ qs. Here qs l b) (sym q) h) (λ m i b fr. absurd (f m i b fr))

  one : (name : List ℕ) (q p : Sequencer) (d : Done) (bs : List (ℕ × Body)) → find_named name s.sequencers ≡ Some q → d.state.network.sent ≡ s.network.sent → d.state.sequencers ≡ put_named name p s.sequencers → p.log ≡ q.log → p.epoch ≡ q.epoch
      → d.sends ≡ posted (whos.Sequencer q.epoch) q.log bs → Result d
  one name q p d bs f n k lg ep sd = goes d n (λ l b h. subst (λ qs. Here qs l b) (sym k) (here_put s.sequencers name q p l b f lg ep h)) (λ m i b fr.
      let z = posted_by (whos.Sequencer q.epoch) q.log bs m (subst (λ ms. In m ms) sd i) in
      let x : whos.Sequencer q.epoch ≡ whos.Sequencer b = sym z.0 ∙ fr in let y : q.epoch ≡ b = cc in
      let h = now_here s.sequencers name p in
      subst (λ qs. Here qs m.log b) (sym k) (record { name = h.name; sequencer = h.sequencer; named = h.named; log = h.log ∙ (lg ∙ sym z.1); epoch = h.epoch ∙ (ep ∙ y) }))

  pub here_cases : Cases c s e (λ d m. Result d)
  unfolding activated
  here_cases = record {
    still = λ f older i. others _ refl refl none_of;
    says = λ x q. others _ refl refl none_of;
    node_hears = λ f older n m i t v o. handled f n m (Step.node_handles n (node_at s n) m).op (Step.node_handles n (node_at s n) m).answer;
    loads = λ n ls q b o. others _ refl refl none_of;
    draw_fails = λ n b. others _ refl refl none_of;
    formats = λ n r g b v i. others _ refl refl (if_written _ [] none_of);
    ticks = λ n l t v i o. ticked n l t;
    stops = λ n b. others _ refl refl none_of;
    wipes = λ n. others _ refl refl none_of;
    faults = λ n f o. others _ refl refl none_of;
    sets = λ l r x set g. others _ refl refl none_of;
    swaps = λ n m l x r q i. others _ refl refl none_of;
    arms = λ k done o. others _ refl refl none_of;
    hears = λ f older name q m i t l v o. let z = reply_continues c s q (rows name q v.named) name (Step.sender_node m.from) m.body v.there in one name q _ _ _ v.named refl refl z.log z.epoch refl;
    retries = λ again name q v o. let z = retry_continues c s q (rows name q v.named) v.there in one name q _ _ _ v.named refl refl z.log z.epoch refl;
    appends = λ name q p v a i. one name q _ _ _ v.named refl refl refl refl refl;
    trims = λ name q t v b. goes _ refl (λ l k h. h) (λ m i k fr. let z = posted_by (whos.Sequencer q.epoch) q.log _ m i in let x : whos.Sequencer q.epoch ≡ whos.Sequencer k = sym z.0 ∙ fr in let y : q.epoch ≡ k = cc in
        record { name = name; sequencer = q; named = v.named; log = sym z.1; epoch = y });
    drops = λ name q v o. goes _ refl (λ l b h. here_put s.sequencers name q (Step.dropped q) l b v.named refl refl h) (λ m i b fr. absurd i);
    activates = λ name l r g n i x. goes _ refl (λ k b h. here_new s.sequencers name _ k b n h) (λ m j b fr. let z = posted_by _ l _ m j in let h = now_here s.sequencers name _ in
        let u = sym z.0 ∙ fr in record { name = h.name; sequencer = h.sequencer; named = h.named; log = h.log ∙ sym z.1; epoch = h.epoch ∙ same_epoch _ b u });
    activate_fails = λ name l x g q. others _ refl refl none_of;
    answers = λ f older name d m i t v o. others _ refl refl (reader_none _ _ _);
    polls = λ name d v o. others _ refl refl (reader_none _ _ _);
    opens = λ style name l from until o x. others _ refl refl none_of;
  } where
    same_epoch : (a b : ℕ) → whos.Sequencer a ≡ whos.Sequencer b → a ≡ b
    same_epoch a b h = cc

    handled : (f : List ℕ) (n : ℕ) (m : Msg) (o : Option Op) (b : Option Body) → Result (Step.handles (with_node (refreshed s f) n (Step.releases (node_at s n) m.log m.body)) n m o b)
    handled f n m None b = others _ refl refl (answer_none n m b)
    handled f n m (Some o) b = others _ refl refl (if_written _ (answer_message n m b) (answer_none n m b))

    ticked : (n l : ℕ) (t : Ticked) → Result (Step.ticks_as c s n l t)
    ticked n l (Cleans k y) = others _ refl refl (if_written _ [] none_of)
    ticked n l Rebuilt = others _ refl refl (if_written _ [] none_of)
    ticked n l (Asks from) = others _ refl refl (node_none n l _)
    ticked n l Nothing = others _ refl refl none_of

pub here_kept : (c : Config) → Keeps c (λ hs w. Base c hs w × AllHere w.state.sequencers w.state.network.sent)
here_kept c = beside_kept c (Base c) (λ hs w. AllHere w.state.sequencers w.state.network.sent) (base_kept c) (λ m i. absurd i)
    (λ hs w e B n p. dispatch c w.state e (λ d m. AllHere (finish d).state.sequencers (finish d).state.network.sent) B.0.0 (here_cases c w.state e (λ name q f. (counts_of c hs w B name q f).row) p))
