-- What a node answers to a reader's ask: it tells what the number is, or sends a page that covers the number and lacks it; and where it knows the number, it tells.
use Rattle.std.proofs.Common.{◌≡◌, ◌∙◌, ◌⊎◌, ◌≤◌, ◌<◌, ℕ, ◌-◌, ◌^◌, inl, inr, refl, ap, sym, subst, Bool, true, false, not, ◌&&◌, ◌==◌, if◌then◌else◌, nat_lt, nat_le, cond, List, [], ◌∷◌, map, take, Option, Some, None, is_some, arith, eq-eqb, leb-true, le-leb}
use Rattle.std.proofs.lemmas.Bool.{and_parts, and_from, eqb-true, leb-false, ltb-true, not-true}
use Rattle.ld_table.specs.Words.{values}
use Rattle.ld_lsn.specs.Number.{epoch_of, esn_of, numbered, home_epoch, home_esn, is_epoch_end, last_esn}
use Rattle.ld_msg.specs.declared.msg.What.{What}
use Rattle.ld_msg.specs.declared.msg.What.TheVariants.{Rec, Hole, Bridge, Plug, Withheld}
use Rattle.ld_msg.specs.declared.msg.Entry.{Entry}
use Rattle.ld_msg.specs.declared.msg.Summary.{Summary}
use Rattle.ld_msg.specs.declared.msg.Body.{Body}
use Rattle.ld_msg.specs.declared.msg.Body.TheVariants as bodies
use Rattle.ld_msg.specs.Choice.{sender}
use Rattle.ld_msg.specs.Digest.{is_bridge}
use Rattle.ld_msg.specs.Reading.{entry_at, page_at, sends_nothing}
use Rattle.ld_op.specs.Plain.{Log, summary_at, is_lost}
use Rattle.ld_op.specs.Answers.{readable, entries_within, page_upto, page_limit, read_page, lets_read, open_answer, clean_page, lost_or, epoch_answer, read_answer, is_node, withheld, withheld_what, withheld_in, one_answer}
use Rattle.ld_machine.specs.Invariant.{is_withheld}
use Rattle.ld_machine.specs.World.{In}
use Rattle.ld_safety.proofs.Lists.{cond_both, not_none, Some_inj}
use Rattle.ld_safety.proofs.Members.{In_filter, filter_in, In_take, In_values, find_in}
use Rattle.ld_safety.proofs.Rising.{Rising, rising_values, rising_filter, page_has}
use Rattle.ld_safety.proofs.CarriedNodes.{upto_cases}
use Rattle.ld_safety.proofs.LostEntries.{HasEntry}
use Rattle.ld_safety.proofs.LostPages.{home_is}
use Rattle.ld_safety.proofs.Withheld.{still_there}
use Rattle.ld_served.proofs.Shows.{Tells, trimmed, ended, shows}

-- ---- numbers ----

-- an end at or below the place of a number is of the number's epoch, and isn't above it
end_below : (next k : ℕ) → 1 ≤ k → k ≤ last_esn → k ≤ home_esn next → (home_epoch (numbered (home_epoch next) k) ≡ home_epoch next) × (numbered (home_epoch next) k ≤ next)
end_below next k a b c = (here, by_last (is_epoch_end next) refl c) where
  here : home_epoch (numbered (home_epoch next) k) ≡ home_epoch next
  here = (home_is (numbered (home_epoch next) k) (home_epoch next) (omega arith) (omega arith)).0

  by_last : (t : Bool) → is_epoch_end next ≡ t → k ≤ (if t then 2 ^ 32 else esn_of next) → numbered (if t then epoch_of next - 1 else epoch_of next) k ≤ next
  by_last true t l = let p = and_parts (esn_of next == 0) (nat_lt 0 (epoch_of next)) t in let q = eqb-true (esn_of next) 0 p.0 in let r = ltb-true 0 (epoch_of next) p.1 in omega arith
  by_last false t l = omega arith

-- a number whose offset is below an end is at most the last number before it
pub below_end : (n k : ℕ) → home_esn n < k → n ≤ numbered (home_epoch n) (k - 1)
below_end n k = by_last (is_epoch_end n) refl where
  by_last : (t : Bool) → is_epoch_end n ≡ t → (if t then 2 ^ 32 else esn_of n) < k → n ≤ numbered (if t then epoch_of n - 1 else epoch_of n) (k - 1)
  by_last true t l = let p = and_parts (esn_of n == 0) (nat_lt 0 (epoch_of n)) t in let q = eqb-true (esn_of n) 0 p.0 in let r = ltb-true 0 (epoch_of n) p.1 in omega arith
  by_last false t l = omega arith

-- ---- pages ----
in_values : (k : ℕ) (f : Entry) (m : List (ℕ × Entry)) → In (k, f) m → In f (values m)
in_values k f [] i = absurd i
in_values k f (e ∷ m) (inl q) = inl (ap (λ (x : ℕ × Entry). x.1) q)
in_values k f (e ∷ m) (inr i) = inr (in_values k f m i)

shown_at : (s : ℕ) (f : Entry) (es : List Entry) → In f es → f.number ≡ s → entry_at s es ≡ None → ⊥
shown_at s f [] i n = absurd i
shown_at s f (e ∷ es) i n = by_test (e.number == s) refl i (λ j. shown_at s f es j n) where
  by_test : (b : Bool) → (e.number == s) ≡ b → In f (e ∷ es) → (In f es → entry_at s es ≡ None → ⊥) → cond b (Some e.what) (entry_at s es) ≡ None → ⊥
  by_test true q j ih z = not_none (sym z)
  by_test false q (inl z) ih k = let u : true ≡ false = sym (eq-eqb e.number s (sym (ap (λ (x : Entry). x.number) z) ∙ n)) ∙ q in cc
  by_test false q (inr j) ih k = ih j k

-- the entry that a page shows
shown_of : (s : ℕ) (es : List Entry) (x : What) → entry_at s es ≡ Some x → (f : Entry) × In f es × (f.what ≡ x)
shown_of s [] x h = absurd (not_none h)
shown_of s (e ∷ es) x h = by_test (e.number == s) h (shown_of s es x) where
  by_test : (b : Bool) → cond b (Some e.what) (entry_at s es) ≡ Some x → (entry_at s es ≡ Some x → (f : Entry) × In f es × (f.what ≡ x)) → (f : Entry) × In f (e ∷ es) × (f.what ≡ x)
  by_test true q ih = (e, inl refl, Some_inj q)
  by_test false q ih = let z = ih q in (z.0, inr z.1, z.2)

-- ---- a node's log ----

-- its entries rise, stand under their numbers and say what they hold; its summaries end within their epochs
pub record Sound (g : Log) : Type 0 where
  pub rising : Rising g.entries
  pub numbers : (q : ℕ × Entry) → In q g.entries → q.1.number ≡ q.0
  pub whole : (q : ℕ × Entry) → In q g.entries → is_withheld q.1.what ≡ false
  pub ends : (e : ℕ) (z : Summary) → summary_at g e ≡ Some z → (1 ≤ z.end) × (z.end ≤ last_esn)

-- it knows what the number is: trimmed, past its epoch's end, or an entry
pub data Knows (g : Log) (n : ℕ) : Type 0 where
  is_trimmed : n ≤ g.trim → Knows g n
  is_ended : (z : Summary) → summary_at g (home_epoch n) ≡ Some z → z.end ≤ home_esn n → Knows g n
  is_there : HasEntry g n → Knows g n

-- an answer about a number
pub record Answers (g : Log) (n : ℕ) (b : Body) : Type 0 where
  pub tells : Tells n b ⊎ (sends_nothing n b ≡ true)
  pub knows : Knows g n → Tells n b

module _ (g : Log) (S : Sound g) (n : ℕ) where
  -- ---- a page from the number on ----
  module _ (round : ℕ) (clean : Bool) (bound : ℕ) (low : n ≤ bound) where
    abbrev rest : List Entry
    rest = readable g n bound

    abbrev page : Body
    page = read_page round n clean bound rest

    covers : n ≤ page_upto rest bound
    covers = elim (upto_cases rest bound) [
      | inl f ↦ (let i = In_filter (λ (e : Entry). not (is_bridge e.what)) f.0 (entries_within g n bound) f.1 in let j = In_filter (λ (e : Entry). nat_le n e.number && nat_le e.number bound) f.0 (values g.entries) i.0 in
          let k = and_parts (nat_le n f.0.number) (nat_le f.0.number bound) j.1 in let v = leb-true n f.0.number k.0 in let q = f.2 in omega arith)
      | inr e ↦ omega arith
    ]

    -- what it shows is neither a bridge nor withheld
    shown_fine : (x : What) → entry_at n (take page_limit rest) ≡ Some x → Tells n page
    shown_fine x h =
        let f = shown_of n (take page_limit rest) x h in
        let i = In_filter (λ (e : Entry). not (is_bridge e.what)) f.0 (entries_within g n bound) (In_take page_limit f.0 rest f.1) in
        let j = In_filter (λ (e : Entry). nat_le n e.number && nat_le e.number bound) f.0 (values g.entries) i.0 in
        let k = In_values f.0 g.entries j.0 in
        shows x h (subst (λ w. is_bridge w ≡ false) f.2 (not-true _ i.1)) (subst (λ w. is_withheld w ≡ false) f.2 (S.whole (k.0, f.0) k.1))

    by_entry : (o : Option What) → entry_at n (take page_limit rest) ≡ o → Tells n page ⊎ (sends_nothing n page ≡ true)
    by_entry None h = inr (and_from (nat_le n n && nat_le n (page_upto rest bound)) (not (is_some (entry_at n (take page_limit rest)))) (and_from (nat_le n n) (nat_le n (page_upto rest bound)) (le-leb n n (omega arith)) (le-leb n (page_upto rest bound) covers)) (ap (λ o. not (is_some o)) h))
    by_entry (Some x) h = inl (shown_fine x h)

    -- where the number has an entry, it is there
    has_it : HasEntry g n → entry_at n (take page_limit rest) ≡ None → ⊥
    has_it h =
        let i = find_in n g.entries h.0 h.1 in
        let m : h.0.number ≡ n = S.numbers (n, h.0) i in
        let c = covers in
        let r = rising_filter (λ (e : Entry). not (is_bridge e.what)) (entries_within g n bound) (rising_filter (λ (e : Entry). nat_le n e.number && nat_le e.number bound) (values g.entries) (rising_values g.entries S.numbers S.rising)) in
        shown_at n h.0 (take page_limit rest) (page_has rest bound h.0 r (filter_in (λ (e : Entry). not (is_bridge e.what)) h.0 (entries_within g n bound)
        (filter_in (λ (e : Entry). nat_le n e.number && nat_le e.number bound) h.0 (values g.entries) (in_values n h.0 g.entries i) (and_from (nat_le n h.0.number) (nat_le h.0.number bound) (le-leb n h.0.number (omega arith)) (le-leb h.0.number bound (omega arith)))) (ap not h.2)) (omega arith)) m

    entry_tells : HasEntry g n → Tells n page
    entry_tells h = by_there (entry_at n (take page_limit rest)) refl where
      by_there : (o : Option What) → entry_at n (take page_limit rest) ≡ o → Tells n page
      by_there None q = absurd (has_it h q)
      by_there (Some x) q = shown_fine x q

    page_answers : (n ≤ g.trim → ⊥) → ((z : Summary) → summary_at g (home_epoch n) ≡ Some z → z.end ≤ home_esn n → ⊥) → Answers g n page
    page_answers nt ne = record { tells = by_entry (entry_at n (take page_limit rest)) refl; knows = λ k. by_knows k } where
      by_knows : Knows g n → Tells n page
      by_knows (is_trimmed l) = absurd (nt l)
      by_knows (is_ended z e l) = absurd (ne z e l)
      by_knows (is_there h) = entry_tells h

  -- ---- any answer ----
  telling : (b : Body) → Tells n b → Answers g n b
  telling b t = record { tells = inl t; knows = λ k. t }

  module _ (generation released round : ℕ) (found : is_lost g (home_epoch n) ≡ false) (lets : summary_at g (home_epoch n) ≡ None → lets_read released n ≡ true) where
    past_end : (z : Summary) → summary_at g (home_epoch n) ≡ Some z → z.end ≤ home_esn n → Tells n (bodies.ReadEnded round n (numbered (home_epoch n) z.end) z.loss)
    past_end z e l =
        let k = S.ends (home_epoch n) z e in let p = end_below n z.end k.0 k.1 l in
        let t : ((home_epoch (numbered (home_epoch n) z.end) == home_epoch n) && nat_le (numbered (home_epoch n) z.end) n) ≡ true
        = and_from (home_epoch (numbered (home_epoch n) z.end) == home_epoch n) (nat_le (numbered (home_epoch n) z.end) n) (eq-eqb _ _ p.0) (le-leb _ _ p.1) in
        ended z.loss (ap (λ u. if u then Some z.loss else None) t)

    by_summary : (o : Option Summary) → summary_at g (home_epoch n) ≡ o → (n ≤ g.trim → ⊥) → Answers g n (epoch_answer generation g released round n o)
    by_summary None e nt = subst (λ t. Answers g n (lost_or t generation round n 0 (open_answer g released round n))) (sym found) (subst (λ t. Answers g n (if t then read_page round n false released (readable g n released) else bodies.ReadWait round n released)) (sym (lets e))
        (page_answers round false released (let p = and_parts (nat_lt 0 (esn_of released) && (epoch_of released == home_epoch n)) (nat_le n released) (lets e) in leb-true n released p.1) nt (λ z k. absurd (not_none (sym e ∙ k)))))
    by_summary (Some z) e nt = cond_both (nat_le z.end (home_esn n)) (bodies.ReadEnded round n (numbered (home_epoch n) z.end) z.loss) (lost_or (is_lost g (home_epoch n)) generation round n (numbered (home_epoch n) z.end) (clean_page g round n z)) (Answers g n)
        (λ t. telling _ (past_end z e (leb-true z.end (home_esn n) t)))
        (λ t. let above : home_esn n < z.end = leb-false z.end (home_esn n) t in
        subst (λ u. Answers g n (lost_or u generation round n (numbered (home_epoch n) z.end) (clean_page g round n z))) (sym found)
        (page_answers round true (numbered (home_epoch n) (z.end - 1)) (below_end n z.end above) nt (λ k q l. let same : k.end ≡ z.end = ap (λ (x : Summary). x.end) (Some_inj (sym q ∙ e)) in omega arith)))

    pub answers : Answers g n (read_answer generation g released round n)
    unfolding read_answer
    answers = cond_both (nat_le n g.trim) (bodies.ReadTrim round n g.trim) (epoch_answer generation g released round n (summary_at g (home_epoch n))) (Answers g n)
        (λ t. telling _ (trimmed (leb-true n g.trim t)))
        (λ t. by_summary (summary_at g (home_epoch n)) refl (λ l. let u = leb-false n g.trim t in omega arith))

-- ---- answers to asks for one copy ----
module _ (y : ℕ) (set excluded : List Bool) (n : ℕ) where
  abbrev mine : Bool
  mine = is_node y (sender set excluded n)

  of_what : Bool → Option What → Option What
  of_what b None = None
  of_what b (Some x) = Some (withheld_what b x)

  shown_so : (es : List Entry) → entry_at n (map (withheld y set excluded) es) ≡ of_what mine (entry_at n es)
  unfolding of_what
  shown_so [] = refl
  shown_so (e ∷ es) = by_number (e.number == n) refl (shown_so es) where
    by_number : (b : Bool) → (e.number == n) ≡ b → entry_at n (map (withheld y set excluded) es) ≡ of_what mine (entry_at n es)
        → cond b (Some (withheld y set excluded e).what) (entry_at n (map (withheld y set excluded) es)) ≡ of_what mine (cond b (Some e.what) (entry_at n es))
    by_number true t ih = ap (λ k. Some (withheld_what (is_node y (sender set excluded k)) e.what)) (eqb-true e.number n t)
    by_number false t ih = ih

  -- what it tells still, or withholds
  abbrev pub Hides : Body → Type 0
  Hides b = page_at n b ≡ Some Withheld

  what_so : (b : Bool) (x : What) → is_bridge x ≡ false → is_withheld x ≡ false → ((is_bridge (withheld_what b x) ≡ false) × (is_withheld (withheld_what b x) ≡ false)) ⊎ ((withheld_what b x ≡ Withheld) × (b ≡ false))
  what_so true (Rec p) h k = inl (refl, refl)
  what_so false (Rec p) h k = inr (refl, refl)
  what_so b Hole h k = inl (refl, refl)
  what_so b Bridge h k = absurd cc
  what_so b Plug h k = inl (refl, refl)
  what_so b Withheld h k = absurd cc

  of_page : (round from upto : ℕ) (clean : Bool) (es : List Entry) → Tells n (bodies.ReadPage round from upto clean es) → Tells n (bodies.ReadPage round from upto clean (map (withheld y set excluded) es)) ⊎ (Hides (bodies.ReadPage round from upto clean (map (withheld y set excluded) es)) × (mine ≡ false))
  unfolding of_what
  of_page round from upto clean es (trimmed l) = inl (trimmed l)
  of_page round from upto clean es (ended loss e) = inl (ended loss e)
  of_page round from upto clean es (shows x e b w) = let q = shown_so es ∙ ap (of_what mine) e in elim (what_so mine x b w) [ inl k ↦ inl (shows (withheld_what mine x) q k.0 k.1) | inr k ↦ inr (q ∙ ap Some k.0, k.1) ]

  of_body : (b : Body) → Tells n b → Tells n (withheld_in y set excluded b) ⊎ (Hides (withheld_in y set excluded b) × (mine ≡ false))
  of_body (bodies.ReadPage round from upto clean es) t = of_page round from upto clean es t
  of_body b t = inl t

  nothing_still : (b : Body) → sends_nothing n b ≡ true → sends_nothing n (withheld_in y set excluded b) ≡ true
  nothing_still (bodies.ReadPage round from upto clean es) t = ap (λ k. (nat_le from n && nat_le n upto) && not k) (still_there y set excluded n es) ∙ t
  nothing_still b t = t

  module _ (generation : ℕ) (g : Log) (released round : ℕ) (A : Answers g n (read_answer generation g released round n)) where
    -- a node that knows the number tells, or withholds it
    pub one_tells : Knows g n → Tells n (one_answer y generation g released round n set excluded) ⊎ Hides (one_answer y generation g released round n set excluded)
    unfolding one_answer
    one_tells k = elim (of_body (read_answer generation g released round n) (A.knows k)) [ inl t ↦ inl t | inr t ↦ inr t.0 ]

    -- the one that is to send it tells, or sends nothing of it
    pub sender_tells : sender set excluded n ≡ Some y → Tells n (one_answer y generation g released round n set excluded) ⊎ (sends_nothing n (one_answer y generation g released round n set excluded) ≡ true)
    unfolding one_answer
    sender_tells e = elim A.tells [
      | inl t ↦ elim (of_body (read_answer generation g released round n) t) [
        | inl u ↦ inl u
        | inr u ↦ absurd (let z : mine ≡ true = ap (is_node y) e ∙ eq-eqb y y refl in let k : true ≡ false = sym z ∙ u.1 in cc)
      ]
      | inr t ↦ inr (nothing_still (read_answer generation g released round n) t)
    ]
