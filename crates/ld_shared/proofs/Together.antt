-- The answered calls of several programs that share records are one list of calls.
use Rattle.std.proofs.Common.{◌≡◌, ◌≢◌, ◌≤◌, ◌+◌, ◌⊎◌, inl, inr, ℕ, zero, suc, ◌-◌, Bool, true, false, cond, nat_le, List, [], ◌∷◌, ◌++◌, Result, Ok, length, take, drop, refl, ap, sym, ◌∙◌, subst, arith}
use Rattle.std.proofs.lemmas.Bool.{leb-true, leb-false, cases_eq}
use Rattle.std.proofs.lemmas.List.{take-append-drop, take-take, map-append}
use Rattle.ld_msg.specs.Register.{Register, empty_register}
use Rattle.ld_register.specs.Changes.{Leads, changed}
use Rattle.ld_register.specs.Histories.{Call, Passes, Runs}
use Rattle.ld_register.proofs.Leading.{leads_one}
use Rattle.ld_register.proofs.Growing.{runs_on}
use Rattle.ld_records.specs.Growth.{Grows, IsAt}
use Rattle.ld_records.specs.declared.records.Records.{Ghosts}
use Rattle.ld_register.specs.declared.fault.RegisterFault.{RegisterFault}
use Rattle.ld_shared.specs.declared.shared.SharedRegister.{SharedRegister}
use Rattle.ld_shared.specs.Bodies.{bodies_of, body_in}
use Rattle.ld_shared.specs.Says.{LeadTo, IsMade, Says, Answers, granting, values_of, owner_of}
use Rattle.ld_shared.specs.Together.{Said, Changes, Stands, count_behind, InOrder, AreOf, User, IsNone, AreUsers, IsMerge, AreAllOf, AreAmong, AreCalls, IsOneMore}
use Rattle.ld_shared.proofs.Growing.{at_grows, at_below, take_grows}
use Rattle.ld_shared.proofs.Exact.{led_before}

-- ---- what is said of records stands as they grow ----

led_on : (n : ℕ) (xs ys : List (List ℕ)) (c : Register) → n ≤ length xs → Grows xs ys → LeadTo n xs c → LeadTo n ys c
led_on n xs ys c less g h = subst (λ l. Leads empty_register (bodies_of l) c) (sym (take_grows n xs ys less g)) h

made_on : (own : List ℕ) (n : ℕ) (xs ys : List (List ℕ)) (d : Register) → Grows xs ys → IsMade own n xs d → IsMade own n ys d
made_on own n xs ys d g h = record {
  value = h.value;
  there = at_grows n h.value xs ys g h.there;
  owned = h.owned;
  leads = led_on (n + 1) xs ys d (let l = at_below n h.value xs h.there in omega arith) g h.leads;
}

-- ---- an answered call behind those before it ----

-- what a call says is a call among others, which was answered by contents before the records that are there now
pub record IsNext (own : List ℕ) (values : List (List ℕ)) (n m : ℕ) (x : Call) : Type 0 where
  pub said : Said
  pub owned : said.own ≡ own
  pub call_is : said.call ≡ x
  pub since : n ≤ said.count
  pub until : count_behind said ≤ m
  pub stands : Stands values said

pub next_said : {T : Type 0} (own : List ℕ) (before now values : List (List ℕ)) (result : Result T RegisterFault) (answer : Register → Result T RegisterFault) (after : Register → Register) (x : Call)
    → Says {T = T} own before now result answer after → Grows now values → ((c : Register) → result ≡ answer c → Passes c x (after c)) → IsNext own values (length before) (length now) x
next_said own before now values result answer after x s g passes = elim s.stands [
  | inl same ↦ record {
    said = record { own = own; count = s.count; makes = false; call = x };
    owned = refl;
    call_is = refl;
    since = s.since;
    until = s.there;
    stands = record {
      before = s.contents;
      now = after s.contents;
      leads = led_on s.count now values s.contents s.there g s.leads;
      passes = passes s.contents s.told;
      changes = same;
    };
  }
  | inr made ↦ record {
    said = record { own = own; count = s.count; makes = true; call = x };
    owned = refl;
    call_is = refl;
    since = s.since;
    until = let l = at_below s.count made.value now made.there in omega arith;
    stands = record {
      before = s.contents;
      now = after s.contents;
      leads = led_on s.count now values s.contents s.there g s.leads;
      passes = passes s.contents s.told;
      changes = made_on own s.count now values (after s.contents) g made;
    };
  }
]

pub order_push : (values : List (List ℕ)) (n m k : ℕ) (ss : List Said) (s : Said) → InOrder values n ss m → m ≤ s.count → count_behind s ≤ k → Stands values s → InOrder values n (ss ++ s ∷ []) k
order_push values n m k [] s h since until stands = (omega (arith, h, since), stands, until)
order_push values n m k (t ∷ ss) s h since until stands = (h.0, h.1, order_push values (count_behind t) m k ss s h.2 since until stands)

-- ---- two programs ----

-- none of these calls is this program's
abbrev NoneIsOf : List ℕ → List Said → Type 0
NoneIsOf own [] = Unit {0}
NoneIsOf own (s ∷ ss) = (own ≢ s.own) × NoneIsOf own ss

-- each of a program's calls differs from each of the others in its owner
abbrev AreApart : List Said → List Said → Type 0
AreApart [] ys = Unit {0}
AreApart (x ∷ xs) ys = NoneIsOf x.own ys × AreApart xs ys

apart_tail : (xs : List Said) (y : Said) (ys : List Said) → AreApart xs (y ∷ ys) → AreApart xs ys
apart_tail [] y ys h = tt
apart_tail (x ∷ xs) y ys h = (h.0.1, apart_tail xs y ys h.1)

-- two values under one number are one
at_once : (n : ℕ) (v w : List ℕ) (xs : List (List ℕ)) → IsAt n v xs → IsAt n w xs → v ≡ w
at_once n v w xs h k = last_one (take n xs) v w (sym h ∙ k)
  where
    last_one : (xs : List (List ℕ)) (v w : List ℕ) → xs ++ v ∷ [] ≡ xs ++ w ∷ [] → v ≡ w
    last_one [] v w is = cc
    last_one (x ∷ xs) v w is = last_one xs v w (let e : xs ++ v ∷ [] ≡ xs ++ w ∷ [] = cc in e)

-- two programs don't make one record
one_owner : (own other : List ℕ) (n : ℕ) (values : List (List ℕ)) (d e : Register) → IsMade own n values d → IsMade other n values e → own ≡ other
one_owner own other n values d e h k = sym h.owned ∙ ap (λ v. take 16 v) (at_once n h.value k.value values h.there k.there) ∙ k.owned

-- where the first isn't before the second, the second is before the first
turn_counts : (a b : ℕ) (p q : Bool) → nat_le (cond p (a + 1) a) b ≡ false → (p ≡ true → q ≡ true → a ≡ b → ⊥) → cond q (b + 1) b ≤ a
turn_counts a b false false late apart = let l = leb-false a b late in omega arith
turn_counts a b false true late apart = let l = leb-false a b late in omega arith
turn_counts a b true false late apart = let l = leb-false (a + 1) b late in omega arith
turn_counts a b true true late apart = let l = leb-false (a + 1) b late in elim (cases_eq a b) [ inl same ↦ absurd (apart refl refl same) | inr other ↦ omega (arith, l, other) ]

made_by : (values : List (List ℕ)) (s : Said) (st : Stands values s) → s.makes ≡ true → IsMade s.own s.count values st.now
made_by values s st is = subst (λ b. Changes b s.own s.count values st.before st.now) is st.changes

turn : (values : List (List ℕ)) (x y : Said) → x.own ≢ y.own → Stands values x → Stands values y → nat_le (count_behind x) y.count ≡ false → count_behind y ≤ x.count
turn values x y apart s t late = turn_counts x.count y.count x.makes y.makes late
    (λ p q same. apart (one_owner x.own y.own x.count values s.now t.now (made_by values x s p) (subst (λ n. IsMade y.own n values t.now) (sym same) (made_by values y t q))))

is_either : (b : Bool) → (b ≡ true) ⊎ (b ≡ false)
is_either true = inl refl
is_either false = inr refl

merge_left : (ys : List Said) → IsMerge [] ys ys
merge_left [] = (refl, refl)
merge_left (y ∷ ys) = inr (ys, refl, merge_left ys)

merge_right : (xs : List Said) → IsMerge xs [] xs
merge_right [] = (refl, refl)
merge_right (x ∷ xs) = inl (xs, refl, merge_right xs)

Merged : List (List ℕ) → ℕ → ℕ → List Said → List Said → Type 0
Merged values n m xs ys = (zs : List Said) × InOrder values n zs m × IsMerge xs ys zs

merge : (k : ℕ) (values : List (List ℕ)) (n m : ℕ) (xs ys : List Said) → length xs + length ys ≤ k → AreApart xs ys → InOrder values n xs m → InOrder values n ys m → Merged values n m xs ys
unfolding Merged
merge k values n m [] ys less apart hx hy = (ys, hy, merge_left ys)
merge k values n m (x ∷ xs) [] less apart hx hy = (x ∷ xs, hx, merge_right (x ∷ xs))
merge zero values n m (x ∷ xs) (y ∷ ys) less apart hx hy = absurd (omega (arith, less))
merge (suc k) values n m (x ∷ xs) (y ∷ ys) less apart hx hy = elim (is_either (nat_le (count_behind x) y.count)) [
  | inl first ↦ (
      let r = merge k values (count_behind x) m xs (y ∷ ys) (omega (arith, less)) apart.1 hx.2 (leb-true (count_behind x) y.count first, hy.1, hy.2) in
      (x ∷ r.0, (hx.0, hx.1, r.1), inl (xs, refl, r.2))
      )
  | inr late ↦ (
      let r = merge k values (count_behind y) m (x ∷ xs) ys (omega (arith, less)) (apart_tail (x ∷ xs) y ys apart) (turn values x y apart.0.0 hx.1 hy.1 late, hx.1, hx.2) hy.2 in
      (y ∷ r.0, (hy.0, hy.1, r.1), inr (ys, refl, r.2))
      )
]

-- ---- all programs ----

none_of_mine : (own other : List ℕ) (ss : List Said) → own ≢ other → AreOf other ss → NoneIsOf own ss
none_of_mine own other [] apart h = tt
none_of_mine own other (s ∷ ss) apart h = ((λ is. apart (is ∙ h.0)), none_of_mine own other ss apart h.1)

none_of_merge : (own : List ℕ) (xs ys zs : List Said) → IsMerge xs ys zs → NoneIsOf own xs → NoneIsOf own ys → NoneIsOf own zs
none_of_merge own xs ys [] h p q = tt
none_of_merge own xs ys (z ∷ zs) (inl h) p q = let r = subst (λ l. NoneIsOf own l) h.1 p in (r.0, none_of_merge own h.0 ys zs h.2 r.1 q)
none_of_merge own xs ys (z ∷ zs) (inr h) p q = let r = subst (λ l. NoneIsOf own l) h.1 q in (r.0, none_of_merge own xs h.0 zs h.2 p r.1)

none_of_all : (own : List ℕ) (values : List (List ℕ)) (us : List User) (m : ℕ) (ss : List Said) → IsNone own us → AreUsers values us m → AreAllOf us ss → NoneIsOf own ss
none_of_all own values [] m ss none are all = subst (λ l. NoneIsOf own l) (sym all) tt
none_of_all own values (u ∷ us) m ss none are all =
    none_of_merge own u.calls all.0 ss all.2 (none_of_mine own u.own u.calls none.0 are.0) (none_of_all own values us m all.0 none.1 are.3 all.1)

apart_of : (own : List ℕ) (xs ys : List Said) → AreOf own xs → NoneIsOf own ys → AreApart xs ys
apart_of own [] ys h none = tt
apart_of own (x ∷ xs) ys h none = (subst (λ o. NoneIsOf o ys) (sym h.0) none, apart_of own xs ys h.1 none)

pub together : (values : List (List ℕ)) (us : List User) (m : ℕ) → AreUsers values us m → (ss : List Said) × AreAllOf us ss × InOrder values 0 ss m
unfolding Merged
together values [] m are = ([], refl, omega arith)
together values (u ∷ us) m are =
    let others = together values us m are.3 in
    let r = merge (length u.calls + length others.0) values 0 m u.calls others.0 (omega arith) (apart_of u.own u.calls others.0 are.0 (none_of_all u.own values us m others.0 are.2 are.3 others.1)) are.1 others.2 in
    (r.0, (others.0, others.1, r.2), r.1)

-- ---- a list of calls ----

-- the calls whose changes are the records between
between : (values : List (List ℕ)) (n j k : ℕ) (b d : Register) → AreCalls values → k ≡ n + j → k ≤ length values → LeadTo n values b → LeadTo k values d → (xs : List Call) × Runs b xs d
between values n zero k b d calls is less h g = ([], leads_one empty_register (bodies_of (take n values)) b d h (subst (λ i. LeadTo i values d) (omega (arith, is)) g))
between values n (suc j) k b d calls is less h g =
    let one : k ≡ n + j + 1 = omega (arith, is) in
    let e = led_before (n + j) k values d (omega (arith, is)) g in
    let r = between values n j (n + j) b e.0 calls refl (omega (arith, is, less)) h e.1 in
    let x = calls (n + j) (omega (arith, is, less)) e.0 d e.1 (subst (λ i. LeadTo i values d) one g) in
    (r.0 ++ x.0 ∷ [], runs_on b r.0 e.0 d x.0 r.1 x.1)

runs_append : (c : Register) (xs ys : List Call) (b d : Register) → Runs c xs b → Runs b ys d → Runs c (xs ++ ys) d
runs_append c [] ys b d h g = subst (λ z. Runs z ys d) (sym h) g
runs_append c (x ∷ xs) ys b d (a, p, h) g = (a, p, runs_append a xs ys b d h g)

among_none : (xs : List Call) → AreAmong [] xs
among_none [] = refl
among_none (x ∷ xs) = inr (among_none xs)

among_more : (ss : List Said) (xs ys : List Call) → AreAmong ss ys → AreAmong ss (xs ++ ys)
among_more ss [] ys h = h
among_more ss (x ∷ xs) ys h = inr (among_more ss xs ys h)

behind_more : (a : ℕ) (p : Bool) → a ≤ cond p (a + 1) a
behind_more a true = omega arith
behind_more a false = omega arith

order_reach : (values : List (List ℕ)) (n m : ℕ) (ss : List Said) → InOrder values n ss m → n ≤ m
order_reach values n m [] h = h
order_reach values n m (s ∷ ss) h = omega (arith, h.0, behind_more s.count s.makes, order_reach values (count_behind s) m ss h.2)

led_behind : (values : List (List ℕ)) (n : ℕ) (p : Bool) (own : List ℕ) (c d : Register) → LeadTo n values c → Changes p own n values c d → LeadTo (cond p (n + 1) n) values d
led_behind values n true own c d h made = made.leads
led_behind values n false own c d h same = subst (λ x. LeadTo n values x) (sym same) h

pub all_run : (values : List (List ℕ)) (n m : ℕ) (ss : List Said) (b d : Register) → AreCalls values → m ≤ length values → LeadTo n values b → LeadTo m values d → InOrder values n ss m → (xs : List Call) × AreAmong ss xs × Runs b xs d
all_run values n m [] b d calls there h g order = let r = between values n (m - n) m b d calls (omega (arith, order)) there h g in (r.0, among_none r.0, r.1)
all_run values n m (s ∷ ss) b d calls there h g order =
    let st = order.1 in
    let reach = order_reach values (count_behind s) m ss order.2 in
    let more = behind_more s.count s.makes in
    let first = between values n (s.count - n) s.count b st.before calls (omega (arith, order.0)) (omega (arith, there, reach, more)) h st.leads in
    let rest = all_run values (count_behind s) m ss st.now d calls there (led_behind values s.count s.makes s.own st.before st.now st.leads st.changes) g order.2 in
    (first.0 ++ s.call ∷ rest.0, among_more (s ∷ ss) first.0 (s.call ∷ rest.0) (inl (s, ss, refl, refl, rest.1)), runs_append b first.0 (s.call ∷ rest.0) st.before d first.1 (st.now, st.passes, rest.2))

-- ---- calls among others ----

pub among_split : (before : List Said) (s : Said) (more : List Said) (xs : List Call) → AreAmong (before ++ s ∷ more) xs → (ys zs : List Call) × (xs ≡ ys ++ s.call ∷ zs) × AreAmong more zs
among_split before s more [] h = absurd (not_empty before h)
  where
    not_empty : (b : List Said) → b ++ s ∷ more ≡ [] → ⊥
    not_empty [] is = cc
    not_empty (x ∷ b) is = cc
among_split before s more (x ∷ xs) (inr h) = let r = among_split before s more xs h in (x ∷ r.0, r.1, ap (λ l. x ∷ l) r.2, r.3)
among_split [] s more (x ∷ xs) (inl h) = ([], xs, (let e : s ≡ h.0 = cc in ap (λ y. y ∷ xs) (sym (ap (λ t. t.call) e ∙ h.3))), (let e : more ≡ h.1 = cc in subst (λ l. AreAmong l xs) (sym e) h.4))
among_split (b ∷ before) s more (x ∷ xs) (inl h) =
    let e : before ++ s ∷ more ≡ h.1 = cc in
    let r = among_split before s more xs (subst (λ l. AreAmong l xs) (sym e) h.4) in (x ∷ r.0, r.1, ap (λ l. x ∷ l) r.2, r.3)

-- two of these calls, in their order
pub two_of : (values : List (List ℕ)) (m : ℕ) (before between after : List Said) (s t : Said) (d : Register) → AreCalls values → m ≤ length values → LeadTo m values d → InOrder values 0 (before ++ s ∷ (between ++ t ∷ after)) m
    → (xs ys zs : List Call) × Runs empty_register (xs ++ s.call ∷ (ys ++ t.call ∷ zs)) d
two_of values m before between after s t d calls there leads order =
    let r = all_run values 0 m (before ++ s ∷ (between ++ t ∷ after)) empty_register d calls there refl leads order in
    let p = among_split before s (between ++ t ∷ after) r.0 r.1 in
    let q = among_split between t after p.1 p.3 in
    (p.0, q.0, q.1, subst (λ l. Runs empty_register l d) (p.2 ∙ ap (λ l. p.0 ++ s.call ∷ l) q.2) r.2)

-- ---- a program's calls, one after the other ----

are_push : (own : List ℕ) (ss : List Said) (s : Said) → AreOf own ss → s.own ≡ own → AreOf own (ss ++ s ∷ [])
are_push own [] s h is = (is, tt)
are_push own (t ∷ ss) s h is = (h.0, are_push own ss s h.1 is)

pub one_more : {C T : Type 0} (g : Ghosts C) (old new : SharedRegister C) (values : List (List ℕ)) (calls : List Said) (x : Call) (given : T) (answer : Register → Result T RegisterFault) (after : Register → Register)
    → Answers g old new (Ok given) answer after → Grows (values_of g new) values → ((c : Register) → granting given ≡ answer c → Passes c x (after c)) → IsOneMore g old new values calls x
one_more g old new values calls x given answer after a grows passes are order = elim a.says [
  | inl free ↦ absurd free
  | inr says ↦ (
      let n = next_said (owner_of old) (values_of g old) (values_of g new) values (Ok given) answer after x says grows passes in (
        n.said,
        n.call_is,
        subst (λ o. AreOf o (calls ++ n.said ∷ [])) (sym a.same_owner) (are_push (owner_of old) calls n.said are n.owned),
        order_push values 0 (length (values_of g old)) (length (values_of g new)) calls n.said order n.since n.until n.stands,
      )
      )
]

pub with_calls : (xs ys zs : List Call) (s t u v : Call) (d : Register) → s ≡ u → t ≡ v → Runs empty_register (xs ++ s ∷ (ys ++ t ∷ zs)) d → Runs empty_register (xs ++ u ∷ (ys ++ v ∷ zs)) d
with_calls xs ys zs s t u v d is at h = subst (λ x. Runs empty_register (xs ++ x ∷ (ys ++ v ∷ zs)) d) is (subst (λ x. Runs empty_register (xs ++ s ∷ (ys ++ x ∷ zs)) d) at h)
