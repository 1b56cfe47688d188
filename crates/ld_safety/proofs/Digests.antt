-- A digest in the making has all that its pages showed, so a plan that is made from it has what recoveries need to agree.
use Rattle.std.proofs.Common.{◌≡◌, ◌∙◌, ◌⊎◌, ◌≤◌, ◌<◌, ℕ, ◌+◌, ◌-◌, max, inl, inr, refl, ap, sym, subst, true, false, not, ◌&&◌, ◌==◌, if◌then◌else◌, List, [], ◌∷◌, map, arith}
use Rattle.std.proofs.lemmas.Bool.{and_parts, eqb-true, leb-true, leb-false, cases_order, cases_lt}
use Rattle.ld_lsn.specs.Number.{epoch_of, esn_of, numbered, last_esn}
use Rattle.ld_ids.specs.declared.set.Spec.{Spec}
use Rattle.ld_ids.specs.Choice.{nodes_of}
use Rattle.ld_msg.specs.declared.msg.Entry.{Entry}
use Rattle.ld_msg.specs.declared.msg.Msg.{Msg}
use Rattle.ld_msg.specs.declared.msg.Body.TheVariants as bodies
use Rattle.ld_msg.specs.Digest.{Told, told_nothing, no_digest, told_page, takes_page, with_page, asked_anew, with_asks, told_lost, with_lost, digest_lng}
use Rattle.ld_machine.specs.Facts.{Happened}
use Rattle.ld_machine.specs.World.{Made, In, from_node}
use Rattle.ld_safety.proofs.Lists.{cond_both, max_both, In-append, In-map, In_left, In_right}
use Rattle.ld_safety.proofs.Given.{Place}
use Rattle.ld_safety.proofs.Plans.{lng_least, lng_up, lng_same}
use Rattle.ld_safety.proofs.Protocol.{Basis, plan_of, Says, StoredBy, Kept, Frozen}
use Rattle.ld_safety.proofs.Settled.{LostTold}
use Rattle.ld_safety.proofs.Sent.{ShowsAll, PagesBounded}

-- a page of the node covers the number, and is in what it told
pub record Covered (sent : List Msg) (l e b : ℕ) (t : Told) (n : ℕ) : Type 0 where
  pub from : ℕ
  pub upto : ℕ
  pub trim : ℕ
  pub lng : ℕ
  pub entries : List Entry
  pub page : In (from_node l t.node b (bodies.DigestPage from upto trim lng entries)) sent
  pub epoch : epoch_of from ≡ e
  pub low : from ≤ n
  pub high : n ≤ upto
  pub told : (f : Entry) → In f entries → In f t.entries
  pub trims : trim ≤ t.trim
  pub knows : lng ≤ t.lng

-- an entry came in a page of the node
pub record Paged (sent : List Msg) (l b y : ℕ) (f : Entry) : Type 0 where
  pub from : ℕ
  pub upto : ℕ
  pub trim : ℕ
  pub lng : ℕ
  pub entries : List Entry
  pub page : In (from_node l y b (bodies.DigestPage from upto trim lng entries)) sent
  pub there : In f entries

-- a trim came in a page of the node
pub record TrimPaged (sent : List Msg) (l b y t : ℕ) : Type 0 where
  pub from : ℕ
  pub upto : ℕ
  pub lng : ℕ
  pub entries : List Entry
  pub page : In (from_node l y b (bodies.DigestPage from upto t lng entries)) sent

-- a last known good offset came in a page of the epoch
pub record LngPaged (sent : List Msg) (l e b y g : ℕ) : Type 0 where
  pub from : ℕ
  pub upto : ℕ
  pub trim : ℕ
  pub entries : List Entry
  pub page : In (from_node l y b (bodies.DigestPage from upto trim g entries)) sent
  pub epoch : epoch_of from ≡ e

module _ (hs : List Happened) (made : List Made) (sent : List Msg) where
  -- what one node told; its pages cover what is asked of it above the digest's last known good offset
  pub record ToldSoFar (l e b good : ℕ) (t : Told) : Type 0 where
    pub paged : (f : Entry) → In f t.entries → Paged sent l b t.node f
    pub trimmed : (t.trim ≡ 0) ⊎ TrimPaged sent l b t.node t.trim
    pub known : (t.lng ≡ 0) ⊎ LngPaged sent l e b t.node t.lng
    pub frozen : (f : Entry) → In f t.entries → Frozen hs made l e b f
    pub covers : (n : ℕ) → epoch_of n ≡ e → good < esn_of n → (n < t.asked) ⊎ (t.whole ≡ true) → Covered sent l e b t n
    pub lost_said : t.lost ≡ true → LostTold sent l e b t.node
    pub asks : t.whole ≡ false → epoch_of t.asked ≡ e

  pub record DigestSoFar (s : Spec) (l e b : ℕ) (d : List Told) : Type 0 where
    pub told : (t : Told) → In t d → ToldSoFar l e b (digest_lng d) t
    pub nodes : map (λ (t : Told). t.node) d ≡ nodes_of s

  -- the less is claimed the more is known good
  told_above : (l e b g h : ℕ) (t : Told) → g ≤ h → ToldSoFar l e b g t → ToldSoFar l e b h t
  told_above l e b g h t k u = record { paged = u.paged; trimmed = u.trimmed; known = u.known; frozen = u.frozen; covers = λ n q p w. u.covers n q (omega arith) w; lost_said = u.lost_said; asks = u.asks }

  -- ---- a digest that begins ----
  nothing_nodes : (e : ℕ) (ns : List ℕ) → map (λ (t : Told). t.node) (map (told_nothing e) ns) ≡ ns
  nothing_nodes e [] = refl
  nothing_nodes e (n ∷ ns) = ap (λ l. n ∷ l) (nothing_nodes e ns)

  nothing_told : (l e b good y : ℕ) → ToldSoFar l e b good (told_nothing e y)
  nothing_told l e b good y = record { paged = λ f i. absurd i; trimmed = inl refl; known = inl refl; frozen = λ f i. absurd i; covers = λ n q p h. elim h [ inl a ↦ absurd (omega arith) | inr a ↦ absurd cc ]; lost_said = λ h. absurd cc; asks = λ h. omega arith }

  pub begins : (s : Spec) (l e b : ℕ) → DigestSoFar s l e b (no_digest s e)
  begins s l e b = record {
    told = λ t i. (let m = In-map (told_nothing e) t (nodes_of s) i in subst (ToldSoFar l e b (digest_lng (no_digest s e))) (sym m.2) (nothing_told l e b (digest_lng (no_digest s e)) m.0));
    nodes = nothing_nodes e (nodes_of s);
  }

  -- ---- a digest whose nodes stay ----
  same_nodes : (f : Told → Told) (d : List Told) → ((t : Told) → (f t).node ≡ t.node) → map (λ (t : Told). t.node) (map f d) ≡ map (λ (t : Told). t.node) d
  same_nodes f [] h = refl
  same_nodes f (t ∷ d) h = λ i. h t i ∷ same_nodes f d h i

  covered_as : (l e b n : ℕ) (t u : Told) → u.node ≡ t.node → ((f : Entry) → In f t.entries → In f u.entries) → t.trim ≤ u.trim → t.lng ≤ u.lng → Covered sent l e b t n → Covered sent l e b u n
  covered_as l e b n t u q h k g v = record {
    from = v.from;
    upto = v.upto;
    trim = v.trim;
    lng = v.lng;
    entries = v.entries;
    page = subst (λ y. In (from_node l y b (bodies.DigestPage v.from v.upto v.trim v.lng v.entries)) sent) (sym q) v.page;
    epoch = v.epoch;
    low = v.low;
    high = v.high;
    told = λ f i. h f (v.told f i);
    trims = let z = v.trims in omega arith;
    knows = let z = v.knows in omega arith;
  }

  -- ---- a node that says that it is lost ----
  pub loses : (s : Spec) (l e b y : ℕ) (d : List Told) → LostTold sent l e b y → DigestSoFar s l e b d → DigestSoFar s l e b (with_lost y d)
  unfolding with_lost
  loses s l e b y d L D = record {
    told = λ t i. (let m = In-map (told_lost y) t d i in let u = D.told m.0 m.1 in let g = lng_same (told_lost y) d (λ t. refl) in subst (ToldSoFar l e b (digest_lng (map (told_lost y) d))) (sym m.2) (record {
      paged = u.paged;
      trimmed = u.trimmed;
      known = u.known;
      frozen = u.frozen;
      covers = λ n q p h. covered_as l e b n m.0 (told_lost y m.0) refl (λ f j. j) (omega arith) (omega arith) (u.covers n q (omega arith) h);
      lost_said = cond_both (m.0.node == y) true m.0.lost (λ x. x ≡ true → LostTold sent l e b m.0.node) (λ k h. subst (LostTold sent l e b) (sym (eqb-true _ _ k)) L) (λ k h. u.lost_said h);
      asks = u.asks;
    }));
    nodes = same_nodes (told_lost y) d (λ t. refl) ∙ D.nodes;
  }

  -- ---- nodes are asked anew past what is known good ----
  asked_before : (e good n a : ℕ) → epoch_of n ≡ e → good < esn_of n → n < (if a == numbered e 1 then a else max a (numbered e (good + 1))) → n < a
  asked_before e good n a q p = cond_both (a == numbered e 1) a (max a (numbered e (good + 1))) (λ x. n < x → n < a) (λ t h. h) (λ t h. omega arith)

  asked_epoch : (e good a : ℕ) → good ≤ last_esn - 1 → epoch_of a ≡ e → epoch_of (if a == numbered e 1 then a else max a (numbered e (good + 1))) ≡ e
  asked_epoch e good a m q = cond_both (a == numbered e 1) a (max a (numbered e (good + 1))) (λ x. epoch_of x ≡ e) (λ t. q) (λ t. omega arith)

  pub asks_anew : (s : Spec) (l e b : ℕ) (d : List Told) → digest_lng d ≤ last_esn - 1 → DigestSoFar s l e b d → DigestSoFar s l e b (with_asks e d)
  unfolding with_asks
  asks_anew s l e b d most D = record {
    told = λ t i. (let m = In-map (asked_anew e (digest_lng d)) t d i in let u = D.told m.0 m.1 in let g = lng_same (asked_anew e (digest_lng d)) d (λ t. refl) in
        subst (ToldSoFar l e b (digest_lng (map (asked_anew e (digest_lng d)) d))) (sym m.2) (record {
          paged = u.paged;
          trimmed = u.trimmed;
          known = u.known;
          frozen = u.frozen;
          covers = λ n q p h. let k : digest_lng d < esn_of n = omega arith in covered_as l e b n m.0 (asked_anew e (digest_lng d) m.0) refl (λ f j. j) (omega arith) (omega arith)
              (u.covers n q k (elim h [ inl z ↦ inl (asked_before e (digest_lng d) n m.0.asked q k z) | inr z ↦ inr z ]));
          lost_said = u.lost_said;
          asks = λ h. asked_epoch e (digest_lng d) m.0.asked most (u.asks h);
        }));
    nodes = same_nodes (asked_anew e (digest_lng d)) d (λ t. refl) ∙ D.nodes;
  }

  -- ---- a page ----
  -- what a page of a node for the ballot tells
  pub record PageFacts (l e b y from upto trim lng : ℕ) (es : List Entry) : Type 0 where
    pub sent_so : In (from_node l y b (bodies.DigestPage from upto trim lng es)) sent
    pub epoch : epoch_of from ≡ e
    pub frozen : (f : Entry) → In f es → Frozen hs made l e b f
    pub good : lng ≤ last_esn - 1

  takes_one : (l e b y from upto trim lng past good : ℕ) (es : List Entry) (t : Told) → past ≤ good → past ≤ last_esn - 1 → takes_page y from t ≡ true → PageFacts l e b y from upto trim lng es → ToldSoFar l e b good t → ToldSoFar l e b good (told_page e past upto trim lng es t)
  takes_one l e b y from upto trim lng past good es t le most h p u =
      let a = and_parts (t.node == y) ((t.asked == from) && not t.whole) h in
      let c = and_parts (t.asked == from) (not t.whole) a.1 in
      let node : t.node ≡ y = eqb-true _ _ a.0 in
      let asked : t.asked ≡ from = eqb-true _ _ c.0 in
      let page : In (from_node l t.node b (bodies.DigestPage from upto trim lng es)) sent = subst (λ z. In (from_node l z b (bodies.DigestPage from upto trim lng es)) sent) (sym node) p.sent_so in record {
        paged = λ f i. elim (In-append f t.entries es i) [ inl j ↦ u.paged f j | inr j ↦ record { from = from; upto = upto; trim = trim; lng = lng; entries = es; page = page; there = j } ];
        trimmed = max_both (λ k. (k ≡ 0) ⊎ TrimPaged sent l b t.node k) t.trim trim u.trimmed (inr (record { from = from; upto = upto; lng = lng; entries = es; page = page }));
        known = max_both (λ k. (k ≡ 0) ⊎ LngPaged sent l e b t.node k) t.lng lng u.known (inr (record { from = from; upto = upto; trim = trim; entries = es; page = page; epoch = p.epoch }));
        frozen = λ f i. elim (In-append f t.entries es i) [ inl j ↦ u.frozen f j | inr j ↦ p.frozen f j ];
        covers = λ n q k g. elim (cases_lt n from) [
          | inl lt ↦ covered_as l e b n t (told_page e past upto trim lng es t) refl (λ f i. In_left f t.entries es i) (omega arith) (omega arith) (u.covers n q k (inl (omega arith)))
          | inr ge ↦ record {
            from = from;
            upto = upto;
            trim = trim;
            lng = lng;
            entries = es;
            page = page;
            epoch = p.epoch;
            low = ge;
            high = elim g [ inl z ↦ (let w : n < max (upto + 1) (numbered e (past + 1)) = z in omega arith) | inr z ↦ (let w = leb-true (numbered e last_esn) upto z in omega arith) ];
            told = λ f i. In_right f t.entries es i;
            trims = omega arith;
            knows = omega arith;
          }
        ];
        lost_said = u.lost_said;
        asks = λ w. (let v = leb-false (numbered e last_esn) upto w in omega arith);
      }

  -- what a page of the number makes of what a node told
  abbrev paged_told : ℕ → ℕ → ℕ → ℕ → ℕ → ℕ → ℕ → List Entry → Told → Told
  paged_told e good y from upto trim lng es t = if takes_page y from t then told_page e good upto trim lng es t else t

  pub takes : (s : Spec) (l e b y from upto trim lng : ℕ) (es : List Entry) (d : List Told) → digest_lng d ≤ last_esn - 1 → PageFacts l e b y from upto trim lng es → DigestSoFar s l e b d → DigestSoFar s l e b (with_page e y from upto trim lng es d)
  unfolding with_page
  takes s l e b y from upto trim lng es d most p D = record {
    told = λ t i. (let m = In-map one t d i in subst (ToldSoFar l e b after) (sym m.2) (by_page m.0 (D.told m.0 m.1) (subst (λ (u : Told). u.lng ≤ after) m.2 (lng_least (map one d) t i))));
    nodes = same_nodes one d (λ t. cond_both (takes_page y from t) (told_page e past upto trim lng es t) t (λ (u : Told). u.node ≡ t.node) (λ h. refl) (λ h. refl)) ∙ D.nodes;
  } where
    past : ℕ
    past = max (digest_lng d) lng

    one : Told → Told
    one = paged_told e past y from upto trim lng es

    after : ℕ
    after = digest_lng (map one d)

    grown : digest_lng d ≤ after
    grown = lng_up one d (λ t. cond_both (takes_page y from t) (told_page e past upto trim lng es t) t (λ (u : Told). t.lng ≤ u.lng) (λ h. omega arith) (λ h. omega arith))

    by_page : (t : Told) → ToldSoFar l e b (digest_lng d) t → (one t).lng ≤ after → ToldSoFar l e b after (one t)
    by_page t u = let g = grown in let v = told_above l e b (digest_lng d) after t g u in
        cond_both (takes_page y from t) (told_page e past upto trim lng es t) t (λ (x : Told). x.lng ≤ after → ToldSoFar l e b after x) (λ h k. takes_one l e b y from upto trim lng past after es t (omega arith) (let w = p.good in omega arith) h p v) (λ h k. v)

  -- ---- what a page shows, before the ballot has planned its epoch ----
  abbrev pub NoPlan : ℕ → ℕ → ℕ → Type 0
  NoPlan l e b = (d : Basis) → In (plan_of l e b d) made → ⊥

  pub page_frozen : (l e b y from upto trim lng : ℕ) (es : List Entry) → In (from_node l y b (bodies.DigestPage from upto trim lng es)) sent → epoch_of from ≡ e → e < b → PagesBounded sent → ((f : Entry) → In f es → Place f.number f.what × Says hs made l f.ballot f.number f.what) → NoPlan l e b → lng ≤ last_esn - 1
      → PageFacts l e b y from upto trim lng es
  page_frozen l e b y from upto trim lng es i q lt B S N most = record {
    good = most;
    sent_so = i;
    epoch = q;
    frozen = λ f j. let k = B l y b from upto trim lng es f i j in let s = S f j in let ep : epoch_of f.number ≡ e = k.1 ∙ q in record {
      below = lesser f k.0 ep s.1;
      epoch = ep;
      place = s.0;
      says = s.1;
    };
  } where
    lesser : (f : Entry) → f.ballot ≤ b → epoch_of f.number ≡ e → Says hs made l f.ballot f.number f.what → f.ballot < b
    lesser f h ep (inl s) = let z = s.own in omega arith
    lesser f h ep (inr s) = elim (cases_order f.ballot b) [
      | inl z ↦ absurd (N s.basis (subst (λ v. In (plan_of l v b s.basis) made) ep (subst (λ v. In (plan_of l (epoch_of f.number) v s.basis) made) z s.planned)))
      | inr (inl z) ↦ z
      | inr (inr z) ↦ absurd (omega arith)
    ]

  -- what a whole node had stored for lesser ballots is accounted for
  pub accounts : (s : Spec) (l e b : ℕ) (d : List Told) → DigestSoFar s l e b d → ShowsAll made sent → NoPlan l e b → (t : Told) → In t d → t.whole ≡ true → (n a : ℕ) → epoch_of n ≡ e → digest_lng d < esn_of n → a < b → StoredBy sent l t.node n a → Kept made l b t.trim t.entries n a
  accounts s l e b d D A N t i w n a q p lt st =
      let k = (D.told t i).covers n q p (inr w) in
      elim (A l t.node b k.from k.upto k.trim k.lng k.entries n a k.page st (q ∙ sym k.epoch) k.low k.high lt) [
        | inl z ↦ inl (let u = k.trims in omega arith)
        | inr (inl z) ↦ inr (inl (record { entry = z.entry; there = k.told z.entry z.there; number = z.number; least = z.least }))
        | inr (inr z) ↦ inr (inr (record {
          ballot = z.ballot;
          basis = z.basis;
          planned = z.planned;
          above = z.above;
          before = z.before;
          below = elim (cases_order z.ballot b) [
            | inl v ↦ absurd (N z.basis (subst (λ x. In (plan_of l x b z.basis) made) q (subst (λ x. In (plan_of l (epoch_of n) x z.basis) made) v z.planned)))
            | inr (inl v) ↦ v
            | inr (inr v) ↦ absurd (let u = z.below in omega arith)
          ];
        }))
      ]
