-- A message to a sequencer takes away only what waited for it: what else the sequencer waits for stays under way, and what a node stored or settled counts.
use Rattle.std.proofs.Common.{◌≡◌, ◌∙◌, ◌⊎◌, ◌≤◌, ℕ, ◌+◌, inl, inr, refl, ap, sym, subst, Bool, true, false, ◌==◌, nat_lt, nat_cmp, cond, if◌then◌else◌, List, [], ◌∷◌, ◌++◌, length, Some, None, arith, eq-eqb, le-leb, length-append}
use Rattle.std.specs.BTreeMap.{is_at}
use Rattle.std.proofs.lemmas.Bool.{cases_Bool, eqb-true, leb-true, ltb-true, lt-ltb}
use Rattle.ld_table.specs.Table.{find, put}
use Rattle.ld_table.specs.Words.{is_in, with_one}
use Rattle.ld_table.proofs.Laws.{tied, find-put_same}
use Rattle.ld_lsn.specs.Number.{home_epoch, numbered}
use Rattle.ld_ids.specs.declared.set.Spec.{Spec}
use Rattle.ld_ids.specs.Choice.{nodes_of}
use Rattle.ld_msg.specs.declared.msg.What.{What}
use Rattle.ld_msg.specs.declared.msg.Entry.{Entry}
use Rattle.ld_msg.specs.declared.msg.Summary.{Summary}
use Rattle.ld_msg.specs.declared.msg.Who.TheVariants as whos
use Rattle.ld_msg.specs.declared.msg.Msg.{Msg}
use Rattle.ld_msg.specs.declared.msg.Body.{Body}
use Rattle.ld_msg.specs.declared.msg.Body.TheVariants as bodies
use Rattle.ld_msg.specs.Digest.{Told}
use Rattle.ld_msg.specs.Sequencer.{Sequencer, Append, Planned, is_acked, unacked_from, stored_at, with_append, settle}
use Rattle.ld_machine.specs.World.{In, from_node, to_node_of}
use Rattle.ld_safety.proofs.Lists.{not_none, cond_both}
use Rattle.ld_safety.proofs.Members.{In_put, find_in}
use Rattle.ld_safety.proofs.Appends.{InRow, RowOf, row_bounds, put_in_row}
use Rattle.ld_served.proofs.Losing.{one_there, one_keeps}
use Rattle.ld_served.proofs.Waiting.{Asked, asked_on, page_comes, says_clean, Chosen, ItemsGo, to_enough, to_all}
use Rattle.ld_served.proofs.Going.{StoreGoes, store_goes, stored_comes, trim_comes, clean_comes, ItemGoes, AppendGoes, is_stored, append_goes, ack_comes, Goes}
use Rattle.ld_served.proofs.Passing.{map_chosen, map_items}
use Rattle.ld_served.proofs.Onward.{AppendsGo}

-- ---- what a message answers ----

-- a store of a number
pub data AnswersStore (n : ℕ) (x : Body) : Type 0 where
  tells_stored : x ≡ bodies.Stored n → AnswersStore n x
  tells_trimmed : (t : ℕ) → n ≤ t → x ≡ bodies.TrimmedHere n t → AnswersStore n x
  tells_closed : (z : Summary) → x ≡ bodies.CleanHere n z → AnswersStore n x

-- an ask from a number on, of an epoch
pub data AnswersAsk (e from : ℕ) (x : Body) : Type 0 where
  tells_page : (upto trim lng : ℕ) (es : List Entry) → x ≡ bodies.DigestPage from upto trim lng es → AnswersAsk e from x
  tells_clean : (n : ℕ) (z : Summary) → home_epoch n ≡ e → x ≡ bodies.CleanHere n z → AnswersAsk e from x

module _ (N M : Msg → Type 0) (l b y : ℕ) (x : Body) (keeps : (m : Msg) → N m → (m ≡ from_node l y b x) ⊎ M m) where
  to_stays : (z : ℕ) (k : Body) → N (to_node_of l b z k) → M (to_node_of l b z k)
  to_stays z k n = elim (keeps _ n) [ inl e ↦ absurd (let w : whos.Sequencer b ≡ whos.Node y = ap (λ (m : Msg). m.from) e in cc) | inr m ↦ m ]

  from_stays : (z : ℕ) (k : Body) → N (from_node l z b k) → ((z ≡ y) × (x ≡ k)) ⊎ M (from_node l z b k)
  from_stays z k n = elim (keeps _ n) [ inl e ↦ inl (let w : whos.Node z ≡ whos.Node y = ap (λ (m : Msg). m.from) e in let s : z ≡ y = cc in s, sym (ap (λ (m : Msg). m.body) e)) | inr m ↦ inr m ]

  pub asked_stays : (e : ℕ) (t : Told) → Asked N l b e t → ((t.node ≡ y) × AnswersAsk e t.asked x) ⊎ Asked M l b e t
  asked_stays e t (asked_on n) = inr (asked_on (to_stays _ _ n))
  asked_stays e t (page_comes upto trim lng es n) = elim (from_stays t.node _ n) [ inl z ↦ inl (z.0, tells_page upto trim lng es z.1) | inr m ↦ inr (page_comes upto trim lng es m) ]
  asked_stays e t (says_clean n s h k) = elim (from_stays t.node _ k) [ inl z ↦ inl (z.0, tells_clean n s h z.1) | inr m ↦ inr (says_clean n s h m) ]

  pub store_stays : (n : ℕ) (w : What) (z : ℕ) → StoreGoes N l b n w z → ((z ≡ y) × AnswersStore n x) ⊎ StoreGoes M l b n w z
  store_stays n w z (store_goes lng m) = inr (store_goes lng (to_stays _ _ m))
  store_stays n w z (stored_comes m) = elim (from_stays z _ m) [ inl e ↦ inl (e.0, tells_stored e.1) | inr k ↦ inr (stored_comes k) ]
  store_stays n w z (trim_comes t h m) = elim (from_stays z _ m) [ inl e ↦ inl (e.0, tells_trimmed t h e.1) | inr k ↦ inr (trim_comes t h k) ]
  store_stays n w z (clean_comes s m) = elim (from_stays z _ m) [ inl e ↦ inl (e.0, tells_closed s e.1) | inr k ↦ inr (clean_comes s k) ]

  pub append_stays : (p : ℕ × Append) (z : ℕ) → AppendGoes N l b p z → ((z ≡ y) × (x ≡ bodies.Stored p.0)) ⊎ AppendGoes M l b p z
  append_stays p z (is_stored h) = inr (is_stored h)
  append_stays p z (append_goes lng m) = inr (append_goes lng (to_stays _ _ m))
  append_stays p z (ack_comes m) = elim (from_stays z _ m) [ inl e ↦ inl e | inr k ↦ inr (ack_comes k) ]

  -- an append that the node has stored now
  stored_now : (n : ℕ) (p : Append) (z : ℕ) → AppendGoes N l b (n, p) z → AppendGoes M l b (n, stored_at p y) z
  stored_now n p z (is_stored h) = is_stored (one_keeps y z p.stored h)
  stored_now n p z (append_goes lng m) = append_goes lng (to_stays _ _ m)
  stored_now n p z (ack_comes m) = elim (from_stays z _ m) [ inl e ↦ is_stored (subst (λ k. is_in k (with_one y p.stored) ≡ true) (sym e.0) (one_there y p.stored)) | inr k ↦ ack_comes k ]

-- ---- lists ----

pub found_none : {X : Type 0} (k : ℕ) (m : List (ℕ × X)) (p : ℕ × X) → In p m → find k m ≡ None → p.0 ≡ k → ⊥
unfolding find
found_none k [] p i h e = i
found_none {X = X} k (x ∷ m) p i h e = by_key (is_at (nat_cmp k) x.0) refl (λ j f. found_none k m p j f e) h i where
  by_key : (b : Bool) → is_at (nat_cmp k) x.0 ≡ b → (In p m → find k m ≡ None → ⊥) → cond b (Some x.1) (find k m) ≡ None → In p (x ∷ m) → ⊥
  by_key true t ih f j = not_none (sym f)
  by_key false t ih f (inl a) = (let s : is_at (nat_cmp k) x.0 ≡ true = tied k x.0 ∙ eq-eqb k x.0 (sym e ∙ ap (λ (w : ℕ × X). w.0) a) in let z : true ≡ false = sym s ∙ t in cc)
  by_key false t ih f (inr j) = ih j f

row_once : (n : ℕ) (m : List (ℕ × Append)) (p r : ℕ × Append) → InRow n m → In p m → In r m → p.0 ≡ r.0 → p ≡ r
row_once n [] p r h i j e = absurd i
row_once n (x ∷ m) p r h (inl a) (inl b) e = a ∙ sym b
row_once n (x ∷ m) p r h (inl a) (inr j) e = absurd (let z = row_bounds (n + 1) m r h.1 j in let k : p.0 ≡ x.0 = ap (λ (w : ℕ × Append). w.0) a in let u = h.0 in let v = z.0 in omega arith)
row_once n (x ∷ m) p r h (inr i) (inl b) e = absurd (let z = row_bounds (n + 1) m p h.1 i in let k : r.0 ≡ x.0 = ap (λ (w : ℕ × Append). w.0) b in let u = h.0 in let v = z.0 in omega arith)
row_once n (x ∷ m) p r h (inr i) (inr j) e = row_once (n + 1) m p r h.1 i j e

in_unacked : (s : Spec) (m : List (ℕ × Append)) (p : ℕ × Append) → In p (unacked_from s m) → In p m
in_unacked s [] p i = i
in_unacked s (x ∷ m) p i = cond_both (is_acked s x.1) (unacked_from s m) (x ∷ m) (λ ps. In p ps → In p (x ∷ m)) (λ t j. inr (in_unacked s m p j)) (λ t j. j) i

one_longer : (y : ℕ) (xs : List ℕ) → length xs ≤ length (with_one y xs)
one_longer y xs = cond_both (is_in y xs) xs (xs ++ y ∷ []) (λ l. length xs ≤ length l) (λ t. omega arith) (λ t. let z = length-append xs (y ∷ []) in omega arith)

unacked_before : (s : Spec) (p : Append) (y : ℕ) → is_acked s (stored_at p y) ≡ false → is_acked s p ≡ false
unacked_before s p y h = elim (cases_Bool (is_acked s p)) [
  | inl t ↦ absurd (let a = leb-true s.r (length p.stored) t in let b = one_longer y p.stored in let c : is_acked s (stored_at p y) ≡ true = le-leb s.r (length (with_one y p.stored)) (omega arith) in let d : true ≡ false = sym c ∙ h in cc)
  | inr t ↦ t
]

-- an item that the node settles, where it passes
abbrev settled_one : (ℕ → Bool) → ℕ → ℕ × Planned → ℕ × Planned
settled_one p y i = (i.0, if p i.0 then record { what = i.1.what; settled = with_one y i.1.settled } else i.1)

in_settle : (p : ℕ → Bool) (y : ℕ) (is : List (ℕ × Planned)) (j : ℕ × Planned) → In j (settle p y is) → (i : ℕ × Planned) × In i is × (j ≡ settled_one p y i)
in_settle p y [] j h = absurd h
in_settle p y (i ∷ is) j (inl e) = (i, inl refl, e)
in_settle p y (i ∷ is) j (inr h) = let z = in_settle p y is j h in (z.0, inr z.1, z.2)

fewer_before : (p : ℕ → Bool) (y : ℕ) (i : ℕ × Planned) (k : ℕ) → nat_lt (length (settled_one p y i).1.settled) k ≡ true → nat_lt (length i.1.settled) k ≡ true
fewer_before p y i k = cond_both (p i.0) (record { what = i.1.what; settled = with_one y i.1.settled }) i.1 (λ (w : Planned). nat_lt (length w.settled) k ≡ true → nat_lt (length i.1.settled) k ≡ true)
    (λ t h. let a = ltb-true (length (with_one y i.1.settled)) k h in let b = one_longer y i.1.settled in lt-ltb (length i.1.settled) k (omega arith)) (λ t h. h)

-- ---- what a sequencer waits for ----
module _ (N M : Msg → Type 0) (q : Sequencer) (y : ℕ) (x : Body) (keeps : (m : Msg) → N m → (m ≡ from_node q.log y q.epoch x) ⊎ M m) where
  -- items, where the node settles what it answers
  item_on : (p : ℕ → Bool) (i : ℕ × Planned) (z : ℕ) → (AnswersStore i.0 x → p i.0 ≡ true) → ItemGoes N q.log q.epoch i z → ItemGoes M q.log q.epoch (settled_one p y i) z
  item_on p i z a = cond_both (p i.0) (record { what = i.1.what; settled = with_one y i.1.settled }) i.1 (λ (w : Planned). ItemGoes N q.log q.epoch i z → ItemGoes M q.log q.epoch (i.0, w) z)
      (λ t g. elim g [
        | inl h ↦ inl (one_keeps y z i.1.settled h)
        | inr h ↦ elim (store_stays N M q.log q.epoch y x keeps i.0 i.1.what z h) [ inl e ↦ inl (subst (λ k. is_in k (with_one y i.1.settled) ≡ true) (sym e.0) (one_there y i.1.settled)) | inr k ↦ inr k ]
      ])
      (λ t g. elim g [
        | inl h ↦ inl h
        | inr h ↦ elim (store_stays N M q.log q.epoch y x keeps i.0 i.1.what z h) [ inl e ↦ absurd (let u : true ≡ false = sym (a e.1) ∙ t in cc) | inr k ↦ inr k ]
      ])

  pub items_on : (s : Spec) (lost : List ℕ) (loss : Bool) (is : List (ℕ × Planned)) (p : ℕ → Bool) → ((i : ℕ × Planned) → In i is → AnswersStore i.0 x → p i.0 ≡ true) → ItemsGo s lost loss is (ItemGoes N q.log q.epoch) → ItemsGo s lost loss (settle p y is) (ItemGoes M q.log q.epoch)
  items_on s lost loss is p a (to_enough l h) = to_enough l (λ j k t. let z = in_settle p y is j k in
      subst (λ (w : ℕ × Planned). Chosen s (ItemGoes M q.log q.epoch w)) (sym z.2) (map_chosen s (ItemGoes N q.log q.epoch z.0) (ItemGoes M q.log q.epoch (settled_one p y z.0)) (λ n o g. item_on p z.0 n (a z.0 z.1) g)
      (h z.0 z.1 (fewer_before p y z.0 s.r (subst (λ (w : ℕ × Planned). nat_lt (length w.1.settled) s.r ≡ true) z.2 t)))))
  items_on s lost loss is p a (to_all h) = to_all (λ j k n o. let z = in_settle p y is j k in
      subst (λ (w : ℕ × Planned). (is_in n lost ≡ true) ⊎ ((is_in n w.1.settled ≡ true) ⊎ ItemGoes M q.log q.epoch w n)) (sym z.2) (elim (h z.0 z.1 n o) [
        | inl u ↦ inl u
        | inr (inl u) ↦ inr (inr (item_on p z.0 n (a z.0 z.1) (inl u)))
        | inr (inr u) ↦ inr (inr (item_on p z.0 n (a z.0 z.1) u))
      ]))

  -- items that the message says nothing of
  pub items_stay : (s : Spec) (lost : List ℕ) (loss : Bool) (is : List (ℕ × Planned)) → ((i : ℕ × Planned) → In i is → In y (nodes_of s) → AnswersStore i.0 x → ⊥) → ItemsGo s lost loss is (ItemGoes N q.log q.epoch) → ItemsGo s lost loss is (ItemGoes M q.log q.epoch)
  items_stay s lost loss is a = map_items s lost loss is (ItemGoes N q.log q.epoch) (ItemGoes M q.log q.epoch) (λ i j z n g. elim g [
    | inl h ↦ inl h
    | inr h ↦ elim (store_stays N M q.log q.epoch y x keeps i.0 i.1.what z h) [ inl e ↦ absurd (a i j (subst (λ k. In k (nodes_of s)) e.0 n) e.1) | inr k ↦ inr k ]
  ])

  module _ (G : Goes N q) where
    pub appends_stay : ((p : ℕ × Append) → In p q.appends → In y (nodes_of q.spec) → x ≡ bodies.Stored p.0 → ⊥) → AppendsGo M q
    appends_stay a p i f = map_chosen q.spec (AppendGoes N q.log q.epoch p) (AppendGoes M q.log q.epoch p) (λ z n g. elim (append_stays N M q.log q.epoch y x keeps p z g) [ inl e ↦ absurd (a p i (subst (λ k. In k (nodes_of q.spec)) e.0 n) e.1) | inr k ↦ k ]) (G.appends p i f)

    -- one that it waits for is stored on the node
    pub acked_on : RowOf q → (n : ℕ) (p : Append) → find n q.appends ≡ Some p → x ≡ bodies.Stored n → AppendsGo M (with_append q.spec q n (stored_at p y))
    acked_on R n p h e r i f =
        let j = in_unacked q.spec (put n (stored_at p y) q.appends) r i in
        elim (cases_Bool (r.0 == n)) [
          | inl t ↦ (let one : r ≡ (n, stored_at p y) = row_once (numbered q.epoch (q.lng + 1)) (put n (stored_at p y) q.appends) r (n, stored_at p y) (put_in_row (numbered q.epoch (q.lng + 1)) n (stored_at p y) p q.appends R h).row j (find_in n (put n (stored_at p y) q.appends) (stored_at p y) (find-put_same n n (stored_at p y) q.appends refl)) (eqb-true r.0 n t) in
              subst (λ (w : ℕ × Append). Chosen q.spec (AppendGoes M q.log q.epoch w)) (sym one) (map_chosen q.spec (AppendGoes N q.log q.epoch (n, p)) (AppendGoes M q.log q.epoch (n, stored_at p y)) (λ z k g. stored_now N M q.log q.epoch y x keeps n p z g)
              (G.appends (n, p) (find_in n q.appends p h) (unacked_before q.spec p y (subst (λ (w : ℕ × Append). is_acked q.spec w.1 ≡ false) one f)))))
          | inr t ↦ elim (In_put n (stored_at p y) q.appends r j) [
            | inl z ↦ absurd (let u : (r.0 == n) ≡ true = eq-eqb r.0 n (ap (λ (w : ℕ × Append). w.0) z) in let v : true ≡ false = sym u ∙ t in cc)
            | inr k ↦ map_chosen q.spec (AppendGoes N q.log q.epoch r) (AppendGoes M q.log q.epoch r) (λ z o g. elim (append_stays N M q.log q.epoch y x keeps r z g) [
              | inl u ↦ absurd (let w : bodies.Stored n ≡ bodies.Stored r.0 = sym e ∙ u.1 in let same : n ≡ r.0 = cc in let v : (r.0 == n) ≡ true = eq-eqb r.0 n (sym same) in let k : true ≡ false = sym v ∙ t in cc)
              | inr m ↦ m
            ]) (G.appends r k f)
          ]
        ]
