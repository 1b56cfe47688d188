-- In a half of a calm, each answer to a reader of a round since it began is of a node as it is now.
use Rattle.std.proofs.Common.{◌≡◌, ◌∙◌, ◌⊎◌, ◌≤◌, ◌<◌, ℕ, inl, inr, refl, ap, sym, subst, ◌&&◌, ◌==◌, List, [], ◌∷◌, length, Some, None, arith}
use Rattle.ld_table.specs.Named.{find_named, put_named}
use Rattle.ld_config.specs.declared.config.Config.{Config}
use Rattle.ld_msg.specs.declared.msg.Msg.{Msg}
use Rattle.ld_msg.specs.declared.msg.Who.{Who}
use Rattle.ld_msg.specs.declared.msg.Who.TheVariants as whos
use Rattle.ld_msg.specs.declared.msg.Body.{Body}
use Rattle.ld_msg.specs.declared.msg.Body.TheVariants as bodies
use Rattle.ld_msg.specs.Reader.{Reader, opened, polled, on_answer, round_of}
use Rattle.ld_op.specs.Plain.{log_of, is_lost}
use Rattle.ld_machine.specs.Config.{looks_at}
use Rattle.ld_machine.specs.State.{State, finish, node_at, posted}
use Rattle.ld_machine.specs.World.{In}
use Rattle.ld_machine.specs.Step as Step
use Rattle.ld_machine.specs.Calm as Calm
use Rattle.ld_machine.specs.Calm.{Move}
use Rattle.ld_safety.proofs.Lists.{not_none, only}
use Rattle.ld_safety.proofs.Names.{named_cases}
use Rattle.ld_safety.proofs.Events.{NamesOnce}
use Rattle.ld_safety.proofs.ReaderLogs.{Apart}
use Rattle.ld_safety.proofs.LostReads.{read_on, polled_up}
use Rattle.ld_safety.proofs.LostTalk.{Elsewhere, TalkKeeps, talked, new_or_old, same_readers}
use Rattle.ld_safety.proofs.LostRounds.{Rounds, wave_of, found_in, posted_to}
use Rattle.ld_calm.proofs.Measure.{Ground, right_now}
use Rattle.ld_calm.proofs.Half.{EndsFine, Fresh, fresh_answer}

-- nodes are as they were when the half began: lost or not, under the same generations
abbrev pub NowAs : Ground → State → Type 0
NowAs g s = (l y k e : ℕ) → g.right l y k e ≡ right_now s l y k e

abbrev pub AllEnds : State → Type 0
AllEnds s = (l y : ℕ) → EndsFine (log_of (node_at s y).plain l)

-- each reader's round has only risen, and what came to it of a round since then is of nodes as they are now
pub record HalfTalk (g : Ground) (ms : List Msg) (ds : List (List ℕ × Reader)) : Type 0 where
  pub since : (t : List ℕ) (d : Reader) → find_named t ds ≡ Some d → g.since t ≤ d.round
  pub none : (t : List ℕ) → find_named t ds ≡ None → g.since t ≡ 0
  pub sent : (t : List ℕ) (d : Reader) → find_named t ds ≡ Some d → (m : Msg) → In m ms → m.to ≡ whos.Reader d.number → g.since t < round_of m.body → Fresh (g.right d.log) (Step.sender_node m.from) m.body

-- ---- one step ----

put_none : (t name : List ℕ) (x : Reader) (ds : List (List ℕ × Reader)) → find_named t (put_named name x ds) ≡ None → find_named t ds ≡ None
put_none t name x ds f = elim (named_cases t name x ds) [ inl a ↦ absurd (not_none (sym f ∙ a.1)) | inr a ↦ sym a.1 ∙ f ]

module _ (g : Ground) (c : Config) (s : State) (e : Move) (A : Apart s.network.sent s.readers) (R : Rounds s.register (λ m. In m s.network.sent) s.readers) (N : NowAs g s) (E : AllEnds s) (P : HalfTalk g s.network.sent s.readers) where
  abbrev Now : List Msg → List (List ℕ × Reader) → Type 0
  Now ms ds = HalfTalk g s.network.sent ds × HalfTalk g ms ds

  to_nodes : (ms : List Msg) → ((m : Msg) → In m ms → (r : ℕ) → m.to ≡ whos.Reader r → ⊥) → HalfTalk g ms s.readers
  to_nodes ms h = record { since = P.since; none = P.none; sent = λ t d f m i q. absurd (h m i d.number q) }

  elsewhere_to : (m : Msg) → Elsewhere m → (r : ℕ) → m.to ≡ whos.Reader r → ⊥
  elsewhere_to m h r q = let z : whos.Node h.node ≡ whos.Reader r = sym h.to ∙ q in cc

  posted_nodes : (who : Who) (l : ℕ) (bs : List (ℕ × Body)) (m : Msg) → In m (posted who l bs) → (r : ℕ) → m.to ≡ whos.Reader r → ⊥
  posted_nodes who l bs m i r q = let p = posted_to who l bs m i in let z : whos.Node p.0.0 ≡ whos.Reader r = sym (ap (λ (y : Msg). y.to) p.2) ∙ q in cc

  -- the answer of a node is of it as it is now
  answer_now : (n : ℕ) (m : Msg) (x : Body) → In m s.network.sent → (Step.node_handles n (node_at s n) m).answer ≡ Some x → HalfTalk g (record { from = whos.Node n; to = m.from; log = m.log; body = x } ∷ []) s.readers
  answer_now n m x i h = record { since = P.since; none = P.none; sent = λ t d f k j q u. subst (λ (z : Msg). Fresh (g.right d.log) (Step.sender_node z.from) z.body) (sym (only k _ j)) (came t d f (sym (ap (λ (z : Msg). z.to) (only k _ j)) ∙ q)) } where
    came : (t : List ℕ) (d : Reader) → find_named t s.readers ≡ Some d → m.from ≡ whos.Reader d.number → Fresh (g.right d.log) n x
    came t d f q =
        let l : d.log ≡ m.log = A.logs m d.number t d i (inr q) f refl in
        fresh_answer (g.right d.log) n (node_at s n).plain.generation (log_of (node_at s n).plain m.log) m.log _ _ m.body x (R.asks m d.number i q) h
        (λ k u. subst (λ z. g.right z n k u ≡ (((node_at s n).plain.generation == k) && is_lost (log_of (node_at s n).plain m.log) u)) (sym l) (N m.log n k u)) (E m.log n)

  -- a reader that goes on
  goes_half : (name : List ℕ) (d x : Reader) (ns : List Msg) → find_named name s.readers ≡ Some d → x.number ≡ d.number → x.log ≡ d.log → d.round ≤ x.round → ((m : Msg) → In m ns → (r : ℕ) → m.to ≡ whos.Reader r → ⊥) → Now ns (put_named name x s.readers)
  goes_half name d x ns F number log up h = (record { since = since; none = none; sent = sent }, record { since = since; none = none; sent = λ t z f m i q. absurd (h m i z.number q) }) where
    since : (t : List ℕ) (z : Reader) → find_named t (put_named name x s.readers) ≡ Some z → g.since t ≤ z.round
    since t z f = elim (found_in t name x z s.readers f) [
      | inl a ↦ subst (λ (u : Reader). g.since t ≤ u.round) a.1 (subst (λ k. g.since k ≤ x.round) (sym a.0) (let k = P.since name d F in omega arith))
      | inr a ↦ P.since t z a.1
    ]

    none : (t : List ℕ) → find_named t (put_named name x s.readers) ≡ None → g.since t ≡ 0
    none t f = P.none t (put_none t name x s.readers f)

    sent : (t : List ℕ) (z : Reader) → find_named t (put_named name x s.readers) ≡ Some z → (m : Msg) → In m s.network.sent → m.to ≡ whos.Reader z.number → g.since t < round_of m.body → Fresh (g.right z.log) (Step.sender_node m.from) m.body
    sent t z f m i q u = elim (found_in t name x z s.readers f) [
      | inl a ↦ (let same : z.number ≡ d.number = sym (ap (λ (y : Reader). y.number) a.1) ∙ number in let l : d.log ≡ z.log = sym log ∙ ap (λ (y : Reader). y.log) a.1 in
          subst (λ k. Fresh (g.right k) (Step.sender_node m.from) m.body) l (P.sent name d F m i (q ∙ ap whos.Reader same) (subst (λ k. g.since k < round_of m.body) a.0 u)))
      | inr a ↦ P.sent t z a.1 m i q u
    ]

  half_talk : TalkKeeps c s e Now
  half_talk = record {
    quiet = (P, to_nodes [] (λ m i. absurd i));
    elsewhere = λ ms h. (P, to_nodes ms (λ m i. elsewhere_to m (h m i)));
    answers = λ n m x i t v h. (P, answer_now n m x i h);
    reads = λ name d m i t v. let looks = looks_at c s.register d.log in let y = Step.sender_node m.from in let G = read_on looks d y m.body v.open_still in
        goes_half name d (on_answer looks d y m.body).reader _ v.named G.number G.log G.round (posted_nodes _ _ _);
    polls = λ name d v. goes_half name d (polled (looks_at c s.register d.log) d) _ v.named refl refl (polled_up (looks_at c s.register d.log) d) (posted_nodes _ _ _);
    opens = λ style name l from until o. let x = opened style l (length s.readers) from until in
        let since : (t : List ℕ) (z : Reader) → find_named t (put_named name x s.readers) ≡ Some z → g.since t ≤ z.round = λ t z f. elim (found_in t name x z s.readers f) [
          | inl a ↦ (let k : g.since name ≡ 0 = P.none name o.fresh_name in let j : g.since t ≡ g.since name = ap g.since a.0 in omega arith)
          | inr a ↦ P.since t z a.1
        ] in (
          record {
            since = since;
            none = λ t f. P.none t (put_none t name x s.readers f);
            sent = λ t z f m i q u. elim (found_in t name x z s.readers f) [
              | inl a ↦ absurd (let k = A.known m z.number i (inl q) in let j : length s.readers ≡ z.number = ap (λ (y : Reader). y.number) a.1 in omega arith)
              | inr a ↦ P.sent t z a.1 m i q u
            ];
          },
          record { since = since; none = λ t f. P.none t (put_none t name x s.readers f); sent = λ t z f m i. absurd i },
        );
  }

  both_parts : (ms ns : List Msg) (ds : List (List ℕ × Reader)) → ((m : Msg) → In m ms → In m s.network.sent ⊎ In m ns) → Now ns ds → HalfTalk g ms ds
  both_parts ms ns ds h p = record { since = p.0.since; none = p.0.none; sent = λ t d f m i q u. elim (h m i) [ inl k ↦ p.0.sent t d f m k q u | inr k ↦ p.1.sent t d f m k q u ] }

  -- an event
  pub half_event : NamesOnce s → HalfTalk g (finish (Calm.moves c s e)).state.network.sent (finish (Calm.moves c s e)).state.readers
  half_event O = let t = talked c s e Now half_talk O in
      subst (HalfTalk g (finish (Calm.moves c s e)).state.network.sent) (sym (same_readers (Calm.moves c s e)))
      (both_parts _ (Calm.moves c s e).sends (Calm.moves c s e).state.readers (λ m i. new_or_old c s e m t.same i) t.talk)

-- ---- what comes to a reader ----

-- a body's round is that of the ask, or 0
pub round_wave : (b : Body) → round_of b ≤ wave_of b
round_wave (bodies.ReadAsk round from) = omega arith
round_wave (bodies.ReadOne round from set excluded) = omega arith
round_wave b = omega arith
