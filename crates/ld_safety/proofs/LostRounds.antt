-- Rounds of readers and their asks: what is in a message to or from a reader came of an ask of at most its round, and what it holds was sent to it.
use Rattle.std.proofs.Common.{◌≡◌, ◌∙◌, ◌⊎◌, ◌≤◌, ◌<◌, ℕ, inl, inr, refl, ap, sym, subst, true, false, ◌&&◌, nat_lt, nat_le, List, [], ◌∷◌, length, Some, arith, Bool}
use Rattle.std.proofs.lemmas.Bool.{and_parts, ltb-true}
use Rattle.ld_table.specs.Named.{same, find_named, put_named}
use Rattle.ld_lsn.specs.Number.{home_epoch}
use Rattle.ld_msg.specs.declared.msg.Msg.{Msg}
use Rattle.ld_msg.specs.declared.msg.Who.{Who}
use Rattle.ld_msg.specs.declared.msg.Who.TheVariants as whos
use Rattle.ld_msg.specs.declared.msg.Body.{Body}
use Rattle.ld_msg.specs.declared.msg.Body.TheVariants as bodies
use Rattle.ld_msg.specs.Reading.{Held}
use Rattle.ld_msg.specs.Reader.{Reader, Confirmation, opened, round_of}
use Rattle.ld_msg.specs.Register.{Register, generation_of}
use Rattle.ld_op.specs.Plain.{Log, is_lost}
use Rattle.ld_op.specs.Answers.{read_answer, withheld_in}
use Rattle.ld_op.specs.Handles.{handled_by}
use Rattle.ld_machine.specs.State.{posted}
use Rattle.ld_machine.specs.World.{In}
use Rattle.ld_machine.specs.Step as Step
use Rattle.ld_safety.proofs.Lists.{Some_inj, not_none, not_both, only}
use Rattle.ld_safety.proofs.Names.{named_cases}
use Rattle.ld_table.proofs.NameLaws.{same-self}
use Rattle.ld_safety.proofs.ReaderLogs.{Apart, Concerns}
use Rattle.ld_safety.proofs.NodeSteps.{read_answered}
use Rattle.ld_safety.proofs.Generations.{NoneFalls}
use Rattle.ld_safety.proofs.LostReads.{AskOf}
use Rattle.ld_safety.proofs.LostTalk.{Elsewhere}
use Rattle.ld_msg.specs.declared.style.Style.{Style}
use Rattle.ld_safety.proofs.Withheld.{of_one}
use Rattle.ld_safety.proofs.ReaderSteps.{IsAskOf}

-- the round and the number of an ask or of an answer to it
abbrev pub wave_of : Body → ℕ
wave_of (bodies.ReadAsk round from) = round
wave_of (bodies.ReadOne round from set excluded) = round
wave_of b = round_of b

abbrev pub place_of : Body → ℕ
place_of (bodies.ReadAsk round from) = from
place_of (bodies.ReadOne round from set excluded) = from
place_of (bodies.LostHere number round generation end) = number
place_of (bodies.ReadPage round from upto clean es) = from
place_of (bodies.ReadEnded round from end loss) = from
place_of (bodies.ReadTrim round from trim) = from
place_of (bodies.ReadWait round from released) = from
place_of _ = 0

pub record IsAsk (b : Body) : Type 0 where
  pub round : ℕ
  pub from : ℕ
  pub is : IsAskOf round from b

pub record AtMost (b : Body) (d : Reader) : Type 0 where
  pub wave : wave_of b ≤ d.round
  pub place : place_of b ≤ d.next

-- the round and the number of an ask
pub ask_parts : (b : Body) (round from : ℕ) → IsAskOf round from b → (wave_of b ≡ round) × (place_of b ≡ from)
ask_parts b round from (inl q) = (ap wave_of q, ap place_of q)
ask_parts b round from (inr q) = (ap wave_of q.2, ap place_of q.2)

ask_most : (b : Body) (round from : ℕ) (d : Reader) → IsAskOf round from b → AtMost b d → (round ≤ d.round) × (from ≤ d.next)
ask_most b round from d q h = let p = ask_parts b round from q in let u = p.0 in let v = p.1 in let w = h.wave in let x = h.place in (omega arith, omega arith)

abbrev pub answer_to : ℕ → Reader → Body → Msg
answer_to y d b = record { from = whos.Node y; to = whos.Reader d.number; log = d.log; body = b }

pub record Rounds (r : Register) (S : Msg → Type 0) (ds : List (List ℕ × Reader)) : Type 0 where
  pub nodes : (m : Msg) (k : ℕ) → S m → m.to ≡ whos.Reader k → m.from ≡ whos.Node (Step.sender_node m.from)
  pub asks : (m : Msg) (k : ℕ) → S m → m.from ≡ whos.Reader k → IsAsk m.body
  pub waves : (m : Msg) (k : ℕ) (t : List ℕ) (d : Reader) → S m → Concerns m k → find_named t ds ≡ Some d → d.number ≡ k → AtMost m.body d
  pub generations : (m : Msg) (k n u g end : ℕ) → S m → m.to ≡ whos.Reader k → m.body ≡ bodies.LostHere n u g end → g ≤ generation_of r (Step.sender_node m.from)
  pub positive : (m : Msg) (k n u g end : ℕ) → S m → m.to ≡ whos.Reader k → m.body ≡ bodies.LostHere n u g end → 0 < home_epoch n
  pub held : (t : List ℕ) (d : Reader) (h : ℕ × Held) → find_named t ds ≡ Some d → In h d.held → S (answer_to h.0 d h.1.body)
  pub confirming : (t : List ℕ) (d : Reader) (v : Confirmation) → find_named t ds ≡ Some d → d.confirming ≡ Some v → v.round ≤ d.round

pub same_rounds : (r : Register) (S T : Msg → Type 0) (ds : List (List ℕ × Reader)) → ((m : Msg) → S m → T m) → ((m : Msg) → T m → S m) → Rounds r S ds → Rounds r T ds
same_rounds r S T ds to back h = record {
  nodes = λ m k i. h.nodes m k (back m i);
  asks = λ m k i. h.asks m k (back m i);
  waves = λ m k t d i. h.waves m k t d (back m i);
  generations = λ m k n u g end i. h.generations m k n u g end (back m i);
  positive = λ m k n u g end i. h.positive m k n u g end (back m i);
  held = λ t d y q i. to _ (h.held t d y q i);
  confirming = h.confirming;
}

-- ---- an answer to an ask ----
pub record Answers (generation round from : ℕ) (g : Log) (x : Body) : Type 0 where
  pub wave : wave_of x ≡ round
  pub place : place_of x ≡ from
  pub lost : (n u k end : ℕ) → x ≡ bodies.LostHere n u k end → (k ≡ generation) × (u ≡ round) × (n ≡ from) × (is_lost g (home_epoch from) ≡ true)

pub answers_ask : (generation : ℕ) (g : Log) (released round from : ℕ) → Answers generation round from g (read_answer generation g released round from)
answers_ask generation g released round from = read_answered generation g released round from (Answers generation round from g) (record {
  trimmed = λ h. record { wave = refl; place = refl; lost = λ n u k end q. absurd cc };
  ended = λ y a h k. record { wave = refl; place = refl; lost = λ n u k end q. absurd cc };
  lost_clean = λ y a h k t. record { wave = refl; place = refl; lost = λ n u k end q. (cc, cc, cc, t) };
  lost = λ a h t. record { wave = refl; place = refl; lost = λ n u k end q. (cc, cc, cc, t) };
  clean = λ y a h k t. record { wave = refl; place = refl; lost = λ n u k end q. absurd cc };
  open_page = λ a h t u. record { wave = refl; place = refl; lost = λ n u k end q. absurd cc };
  waits = λ a. record { wave = refl; place = refl; lost = λ n u k end q. absurd cc };
})

answers_one : (generation round from : ℕ) (g : Log) (n : ℕ) (set excluded : List Bool) (b : Body) → Answers generation round from g b → Answers generation round from g (withheld_in n set excluded b)
answers_one generation round from g n set excluded (bodies.ReadPage u f upto clean es) h = record { wave = h.wave; place = h.place; lost = λ k v j end q. absurd cc }
answers_one generation round from g n set excluded _ h = h

-- a log is lost for epochs from the first on
lost_positive : (g : Log) (e : ℕ) → is_lost g e ≡ true → 0 < e
lost_positive g e h = ltb-true 0 e (and_parts (nat_lt 0 e) (nat_le e g.lost_to) (and_parts g.lost (nat_lt 0 e && nat_le e g.lost_to) h).1).0

-- what a node answers to an ask
pub ask_answered : (n generation : ℕ) (g : Log) (l ballot released : ℕ) (b x : Body) (q : IsAsk b) (P : Body → Type 0) → (handled_by n generation g l ballot released b).answer ≡ Some x → P (read_answer generation g released q.round q.from) → ((set excluded : List Bool) (z : Body) → P z → P (withheld_in n set excluded z)) → P x
ask_answered n generation g l ballot released b x q P h all one = elim q.is [
  | inl e ↦ subst P (Some_inj (subst (λ z. (handled_by n generation g l ballot released z).answer ≡ Some x) e h)) all
  | inr e ↦ subst P (Some_inj (subst (λ z. (handled_by n generation g l ballot released z).answer ≡ Some x) e.2 h)) (of_one n e.0 e.1 P generation g released q.round q.from (one e.0 e.1) all)
]

pub ask_answer : (n generation : ℕ) (g : Log) (l ballot released : ℕ) (b x : Body) (q : IsAsk b) → (handled_by n generation g l ballot released b).answer ≡ Some x → Answers generation q.round q.from g x
ask_answer n generation g l ballot released b x q h = ask_answered n generation g l ballot released b x q (Answers generation q.round q.from g) h (answers_ask generation g released q.round q.from) (λ set excluded z k. answers_one generation q.round q.from g n set excluded z k)

-- ---- tables of readers ----
pub found_in : {X : Type 0} (t s : List ℕ) (x y : X) (ds : List (List ℕ × X)) → find_named t (put_named s x ds) ≡ Some y → ((t ≡ s) × (x ≡ y)) ⊎ ((same t s ≡ false) × (find_named t ds ≡ Some y))
found_in t s x y ds i = elim (named_cases t s x ds) [ inl c ↦ inl (c.0, Some_inj (sym c.1 ∙ i)) | inr c ↦ inr (c.0, sym c.1 ∙ i) ]

pub not_same : (t s : List ℕ) → same t s ≡ false → t ≡ s → ⊥
not_same t s h e = not_both (same s s) (same-self s) (subst (λ x. same x s ≡ false) e h)

pub posted_to : (who : Who) (l : ℕ) (bs : List (ℕ × Body)) (m : Msg) → In m (posted who l bs) → (b : ℕ × Body) × In b bs × (m ≡ record { from = who; to = whos.Node b.0; log = l; body = b.1 })
posted_to who l [] m i = absurd i
posted_to who l (b ∷ bs) m (inl e) = (b, inl refl, e)
posted_to who l (b ∷ bs) m (inr i) = let r = posted_to who l bs m i in (r.0, inr r.1, r.2)

-- ---- a reader goes on ----
module _ (r k : Register) (U : NoneFalls r k) (ms : List Msg) (ds : List (List ℕ × Reader)) (A : Apart ms ds) (R : Rounds r (λ m. In m ms) ds) where
  older : (ns : List Msg) → Msg → Type 0
  older ns m = In m ms ⊎ In m ns

  raised : (y g : ℕ) → g ≤ generation_of r y → g ≤ generation_of k y
  raised y g h = let z = U y in omega arith

  -- nothing that concerns a reader
  pub rounds_apart : (ns : List Msg) → ((m : Msg) → In m ns → Elsewhere m) → Rounds k (λ m. In m ms ⊎ In m ns) ds
  rounds_apart ns E = record {
    nodes = λ m j i q. elim i [ inl o ↦ R.nodes m j o q | inr n ↦ absurd (to_node m j (E m n) q) ];
    asks = λ m j i q. elim i [ inl o ↦ R.asks m j o q | inr n ↦ absurd ((E m n).whose j q) ];
    waves = λ m j t d i q f e. elim i [ inl o ↦ R.waves m j t d o q f e | inr n ↦ absurd (elim q [ inl z ↦ to_node m j (E m n) z | inr z ↦ (E m n).whose j z ]) ];
    generations = λ m j n u g end i q b. elim i [ inl o ↦ raised _ g (R.generations m j n u g end o q b) | inr n ↦ absurd (to_node m j (E m n) q) ];
    positive = λ m j n u g end i q b. elim i [ inl o ↦ R.positive m j n u g end o q b | inr n ↦ absurd (to_node m j (E m n) q) ];
    held = λ t d h f i. inl (R.held t d h f i);
    confirming = R.confirming;
  } where
    to_node : (m : Msg) (j : ℕ) → Elsewhere m → m.to ≡ whos.Reader j → ⊥
    to_node m j x q = let z : whos.Node x.node ≡ whos.Reader j = sym x.to ∙ q in cc

  -- the answer of a node
  module _ (n : ℕ) (m : Msg) (x : Body) (i : In m ms) (p : ℕ) (g : Log) (low : p ≤ generation_of r n) (a : (q : IsAsk m.body) → Answers p q.round q.from g x) where
    abbrev pub the_answer : Msg
    the_answer = record { from = whos.Node n; to = m.from; log = m.log; body = x }

    answer_most : (j : ℕ) (t : List ℕ) (d : Reader) → m.from ≡ whos.Reader j → find_named t ds ≡ Some d → d.number ≡ j → AtMost x d
    answer_most j t d q f e = let k = R.asks m j i q in let z = R.waves m j t d i (inr q) f e in let y = ask_most m.body k.round k.from d k.is z in let v = a k in
        record { wave = (let u = v.wave in let w = y.0 in omega arith); place = (let u = v.place in let w = y.1 in omega arith) }

    answer_generation : (j k u h end : ℕ) → m.from ≡ whos.Reader j → x ≡ bodies.LostHere k u h end → h ≤ generation_of r n
    answer_generation j k u h end q e = let z = (a (R.asks m j i q)).lost k u h end e in let y = z.0 in omega arith

    answer_positive : (j k u h end : ℕ) → m.from ≡ whos.Reader j → x ≡ bodies.LostHere k u h end → 0 < home_epoch k
    answer_positive j k u h end q e = let z = (a (R.asks m j i q)).lost k u h end e in subst (λ y. 0 < home_epoch y) (sym z.2) (lost_positive g _ z.3)

    not_reader : (j : ℕ) → whos.Node n ≡ whos.Reader j → ⊥
    not_reader j h = cc

    pub rounds_answer : Rounds k (λ z. In z ms ⊎ In z (the_answer ∷ [])) ds
    rounds_answer = record {
      nodes = λ z j o q. elim o [ inl v ↦ R.nodes z j v q | inr v ↦ subst (λ (y : Msg). y.from ≡ whos.Node (Step.sender_node y.from)) (sym (only z the_answer v)) refl ];
      asks = λ z j o q. elim o [ inl v ↦ R.asks z j v q | inr v ↦ absurd (not_reader j (sym (ap (λ (y : Msg). y.from) (only z the_answer v)) ∙ q)) ];
      waves = λ z j t d o q f e. elim o [
        | inl v ↦ R.waves z j t d v q f e
        | inr v ↦ let w = only z the_answer v in elim q [
          | inl y ↦ subst (λ (b : Body). AtMost b d) (sym (ap (λ (y : Msg). y.body) w)) (answer_most j t d (sym (ap (λ (y : Msg). y.to) w) ∙ y) f e)
          | inr y ↦ absurd (not_reader j (sym (ap (λ (y : Msg). y.from) w) ∙ y))
        ]
      ];
      generations = λ z j b u h end o q e. elim o [
        | inl v ↦ raised _ h (R.generations z j b u h end v q e)
        | inr v ↦ let w = only z the_answer v in raised _ h (subst (λ (y : Who). h ≤ generation_of r (Step.sender_node y)) (sym (ap (λ (y : Msg). y.from) w)) (answer_generation j b u h end (sym (ap (λ (y : Msg). y.to) w) ∙ q) (sym (ap (λ (y : Msg). y.body) w) ∙ e)))
      ];
      positive = λ z j b u h end o q e. elim o [ inl v ↦ R.positive z j b u h end v q e | inr v ↦ let w = only z the_answer v in answer_positive j b u h end (sym (ap (λ (y : Msg). y.to) w) ∙ q) (sym (ap (λ (y : Msg). y.body) w) ∙ e) ];
      held = λ t d h f o. inl (R.held t d h f o);
      confirming = R.confirming;
    }

  -- a reader that goes on, with its asks
  module _ (name : List ℕ) (d x : Reader) (bs : List (ℕ × Body)) (F : find_named name ds ≡ Some d) (number : x.number ≡ d.number) (log : x.log ≡ d.log) (round : d.round ≤ x.round) (next : d.next ≤ x.next)
      (asks : (b : ℕ × Body) → In b bs → AskOf d.round x.round x.next b.1) (held : (h : ℕ × Held) → In h x.held → In (answer_to h.0 x h.1.body) ms) (confirming : (v : Confirmation) → x.confirming ≡ Some v → v.round ≤ x.round) where
    once : (t : List ℕ) (z : Reader) → find_named t (put_named name x ds) ≡ Some z → z.number ≡ x.number → x ≡ z
    once t z f e = elim (found_in t name x z ds f) [ inl a ↦ a.1 | inr a ↦ absurd (not_same t name a.0 (A.once t name z d a.1 F (e ∙ number))) ]

    to_node : (m : Msg) (j : ℕ) → In m (posted (whos.Reader x.number) x.log bs) → m.to ≡ whos.Reader j → ⊥
    to_node m j i q = let p = posted_to (whos.Reader x.number) x.log bs m i in let z : whos.Node p.0.0 ≡ whos.Reader j = sym (ap (λ (y : Msg). y.to) p.2) ∙ q in cc

    old_wave : (m : Msg) (j : ℕ) (t : List ℕ) (z : Reader) → In m ms → Concerns m j → find_named t (put_named name x ds) ≡ Some z → z.number ≡ j → AtMost m.body z
    old_wave m j t z i q f e = elim (found_in t name x z ds f) [
      | inl a ↦ (let y : AtMost m.body d = R.waves m j name d i q F (sym number ∙ (ap (λ (u : Reader). u.number) a.1 ∙ e)) in subst (AtMost m.body) a.1 (record { wave = (let u = y.wave in omega arith); place = (let u = y.place in omega arith) }))
      | inr a ↦ R.waves m j t z i q a.1 e
    ]

    ask_wave : (b : ℕ × Body) → In b bs → AtMost b.1 x
    ask_wave b i = let k = asks b i in let p = ask_parts b.1 k.at k.from k.is in record { wave = (let u = k.upto in let v = p.0 in omega arith); place = (let u = k.below in let v = p.1 in omega arith) }

    new_wave : (m : Msg) (j : ℕ) (t : List ℕ) (z : Reader) → In m (posted (whos.Reader x.number) x.log bs) → Concerns m j → find_named t (put_named name x ds) ≡ Some z → z.number ≡ j → AtMost m.body z
    new_wave m j t z i q f e = let p = posted_to (whos.Reader x.number) x.log bs m i in elim q [
      | inl a ↦ absurd (to_node m j i a)
      | inr a ↦ let y : whos.Reader x.number ≡ whos.Reader j = sym (ap (λ (y : Msg). y.from) p.2) ∙ a in let w : x.number ≡ j = cc in
          subst (AtMost m.body) (once t z f (e ∙ sym w)) (subst (λ (b : Body). AtMost b x) (sym (ap (λ (y : Msg). y.body) p.2)) (ask_wave p.0 p.1))
    ]

    pub rounds_on : Rounds k (λ m. In m ms ⊎ In m (posted (whos.Reader x.number) x.log bs)) (put_named name x ds)
    rounds_on = record {
      nodes = λ m j o q. elim o [ inl i ↦ R.nodes m j i q | inr i ↦ absurd (to_node m j i q) ];
      asks = λ m j o q. elim o [ inl i ↦ R.asks m j i q | inr i ↦ let p = posted_to (whos.Reader x.number) x.log bs m i in let y = asks p.0 p.1 in record { round = y.at; from = y.from; is = subst (IsAskOf y.at y.from) (sym (ap (λ (u : Msg). u.body) p.2)) y.is } ];
      waves = λ m j t z o q f e. elim o [ inl i ↦ old_wave m j t z i q f e | inr i ↦ new_wave m j t z i q f e ];
      generations = λ m j n u g end o q b. elim o [ inl i ↦ raised _ g (R.generations m j n u g end i q b) | inr i ↦ absurd (to_node m j i q) ];
      positive = λ m j n u g end o q b. elim o [ inl i ↦ R.positive m j n u g end i q b | inr i ↦ absurd (to_node m j i q) ];
      held = λ t z h f i. inl (elim (found_in t name x z ds f) [ inl a ↦ subst (λ (u : Reader). In (answer_to h.0 u h.1.body) ms) a.1 (held h (subst (λ (u : Reader). In h u.held) (sym a.1) i)) | inr a ↦ R.held t z h a.1 i ]);
      confirming = λ t z v f q. elim (found_in t name x z ds f) [ inl a ↦ subst (λ (u : Reader). v.round ≤ u.round) a.1 (confirming v (subst (λ (u : Reader). u.confirming ≡ Some v) (sym a.1) q)) | inr a ↦ R.confirming t z v a.1 q ];
    }

  -- a reader is opened
  pub rounds_opened : (style : Style) (name : List ℕ) (l from until : ℕ) → Rounds k (λ m. In m ms ⊎ In m []) (put_named name (opened style l (length ds) from until) ds)
  rounds_opened style name l from until = let x = opened style l (length ds) from until in record {
    nodes = λ m j o q. elim o [ inl i ↦ R.nodes m j i q | inr i ↦ absurd i ];
    asks = λ m j o q. elim o [ inl i ↦ R.asks m j i q | inr i ↦ absurd i ];
    waves = λ m j t z o q f e. elim o [
      | inl i ↦ elim (found_in t name x z ds f) [ inl a ↦ absurd (let u = A.known m j i q in let v : length ds ≡ z.number = ap (λ (y : Reader). y.number) a.1 in omega arith) | inr a ↦ R.waves m j t z i q a.1 e ]
      | inr i ↦ absurd i
    ];
    generations = λ m j n u g end o q b. elim o [ inl i ↦ raised _ g (R.generations m j n u g end i q b) | inr i ↦ absurd i ];
    positive = λ m j n u g end o q b. elim o [ inl i ↦ R.positive m j n u g end i q b | inr i ↦ absurd i ];
    held = λ t z h f i. inl (elim (found_in t name x z ds f) [ inl a ↦ absurd (subst (λ (u : Reader). In h u.held) (sym a.1) i) | inr a ↦ R.held t z h a.1 i ]);
    confirming = λ t z v f q. elim (found_in t name x z ds f) [ inl a ↦ absurd (not_none (subst (λ (u : Reader). u.confirming ≡ Some v) (sym a.1) q)) | inr a ↦ R.confirming t z v a.1 q ];
  }
