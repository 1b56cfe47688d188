-- What ballots say of numbers, who stored what, and what a digest must be for recoveries to agree.
use Rattle.std.proofs.Common.{refl, ◌≡◌, ◌∙◌, ◌⊎◌, ◌≤◌, ◌<◌, ℕ, ◌+◌, ◌-◌, inl, inr, ap, sym, subst, Bool, true, not, ◌&&◌, ◌==◌, List, length, Option, Some, arith, eq-eqb, le-leb, nat_le, leb-true}
use Rattle.std.proofs.lemmas.Bool.{and_parts, eqb-true, and_from}
use Rattle.ld_table.specs.Words.{how_many, any_of}
use Rattle.ld_lsn.specs.Number.{epoch_of, esn_of, last_esn}
use Rattle.ld_ids.specs.declared.set.Spec.{Spec}
use Rattle.ld_ids.specs.Choice.{nodes_of}
use Rattle.ld_msg.specs.declared.msg.What.{What}
use Rattle.ld_msg.specs.declared.msg.What.TheVariants.{Rec}
use Rattle.ld_msg.specs.declared.msg.Entry.{Entry}
use Rattle.ld_msg.specs.declared.msg.Who.{Who}
use Rattle.ld_msg.specs.declared.msg.Who.TheVariants as whos
use Rattle.ld_msg.specs.declared.msg.Msg.{Msg}
use Rattle.ld_msg.specs.declared.msg.Body.{Body}
use Rattle.ld_msg.specs.declared.msg.Body.TheVariants as bodies
use Rattle.ld_msg.specs.Digest.{Told, plan_item, plan_end, digest_lng}
use Rattle.ld_machine.specs.Facts.{Happened}
use Rattle.ld_machine.specs.World.{Made, In, from_node, told_by, says_stored, is_node, is_sequencer, says_settled}
use Rattle.ld_safety.proofs.Lists.{any_in, any_from}
use Rattle.ld_safety.proofs.Given.{AppendedBy, Place}

-- ---- what a ballot says of a number ----

-- what a plan was made from: whether it says what is lost, its digest, and who had nothing to tell
pub record Basis : Type 0 where
  pub loss : Bool
  pub digest : List Told
  pub gone : List ℕ

abbrev pub plan_of : ℕ → ℕ → ℕ → Basis → Made
plan_of l e b d = record { log = l; epoch = e; ballot = b; loss = d.loss; digest = d.digest; gone = d.gone }

abbrev pub plan_at : ℕ → Basis → ℕ → Option What
plan_at e d n = plan_item e d.loss d.digest n

-- the append's record, for the epoch's own ballot
pub record OwnSays (hs : List Happened) (l b n : ℕ) (x : What) : Type 0 where
  pub own : b ≡ epoch_of n
  pub payload : List ℕ
  pub is : x ≡ Rec payload
  pub appended : AppendedBy hs l n payload

-- the item of the ballot's plan, for a greater one
pub record PlanSays (made : List Made) (l b n : ℕ) (x : What) : Type 0 where
  pub later : epoch_of n < b
  pub basis : Basis
  pub planned : In (plan_of l (epoch_of n) b basis) made
  pub item : plan_at (epoch_of n) basis (esn_of n) ≡ Some x

abbrev pub Says : List Happened → List Made → ℕ → ℕ → ℕ → What → Type 0
Says hs made l b n x = OwnSays hs l b n x ⊎ PlanSays made l b n x

-- a ballot plans an epoch at most once
abbrev pub PlansOnce : List Made → Type 0
PlansOnce made = (l e b : ℕ) (d f : Basis) → In (plan_of l e b d) made → In (plan_of l e b f) made → d ≡ f

-- a number is appended at most once
abbrev pub AppendsOnce : List Happened → Type 0
AppendsOnce hs = (l n : ℕ) (p q : List ℕ) → AppendedBy hs l n p → AppendedBy hs l n q → p ≡ q

-- what a ballot says of a number is one thing
pub says_once : (hs : List Happened) (made : List Made) (l b n : ℕ) (x z : What) → AppendsOnce hs → PlansOnce made → Says hs made l b n x → Says hs made l b n z → x ≡ z
says_once hs made l b n x z A P (inl s) (inl t) = s.is ∙ (ap Rec (A l n s.payload t.payload s.appended t.appended) ∙ sym t.is)
says_once hs made l b n x z A P (inl s) (inr t) = absurd (let a = s.own in let b = t.later in omega arith)
says_once hs made l b n x z A P (inr s) (inl t) = absurd (let a = t.own in let b = s.later in omega arith)
says_once hs made l b n x z A P (inr s) (inr t) =
    let q : s.basis ≡ t.basis = P l (epoch_of n) b s.basis t.basis s.planned t.planned in
    let e : Some x ≡ Some z = sym s.item ∙ (ap (λ (d : Basis). plan_at (epoch_of n) d (esn_of n)) q ∙ t.item) in cc

-- ---- who stored what ----

abbrev pub StoredBy : List Msg → ℕ → ℕ → ℕ → ℕ → Type 0
StoredBy sent l y n b = In (from_node l y b (bodies.Stored n)) sent

abbrev pub tells_stored : List Msg → ℕ → ℕ → ℕ → ℕ → Bool
tells_stored sent l n b y = any_of (told_by (says_stored n) l y b) sent

stored_body : (n : ℕ) (b : Body) → says_stored n b ≡ true → b ≡ bodies.Stored n
stored_body n (bodies.Stored s) h = ap bodies.Stored (eqb-true s n h)
stored_body n _ h = absurd cc

node_who : (y : ℕ) (w : Who) → is_node y w ≡ true → w ≡ whos.Node y
node_who y (whos.Node x) h = ap whos.Node (eqb-true x y h)
node_who y _ h = absurd cc

pub sequencer_who : (b : ℕ) (w : Who) → is_sequencer b w ≡ true → w ≡ whos.Sequencer b
sequencer_who b (whos.Sequencer e) h = ap whos.Sequencer (eqb-true e b h)
sequencer_who b _ h = absurd cc

pub same_message : (m : Msg) (l y b : ℕ) (body : Body) → m.from ≡ whos.Node y → m.to ≡ whos.Sequencer b → m.log ≡ l → m.body ≡ body → m ≡ from_node l y b body
same_message m l y b body f t g h = λ i. record { from = f i; to = t i; log = g i; body = h i }

pub told_stored : (sent : List Msg) (l n b y : ℕ) → tells_stored sent l n b y ≡ true → StoredBy sent l y n b
told_stored sent l n b y h =
    let m = any_in (told_by (says_stored n) l y b) sent h in
    let p = and_parts ((m.0.log == l) && says_stored n m.0.body) (is_node y m.0.from && is_sequencer b m.0.to) m.2 in
    let q = and_parts (m.0.log == l) (says_stored n m.0.body) p.0 in
    let r = and_parts (is_node y m.0.from) (is_sequencer b m.0.to) p.1 in
    subst (λ x. In x sent) (same_message m.0 l y b (bodies.Stored n) (node_who y m.0.from r.0) (sequencer_who b m.0.to r.1) (eqb-true _ _ q.0) (stored_body n m.0.body q.1)) m.1

pub stored_told : (sent : List Msg) (l n b y : ℕ) → StoredBy sent l y n b → tells_stored sent l n b y ≡ true
stored_told sent l n b y i = any_from (told_by (says_stored n) l y b) (from_node l y b (bodies.Stored n)) sent i (and_from _ _ (and_from _ _ (eq-eqb l l refl) (eq-eqb n n refl)) (and_from _ _ (eq-eqb y y refl) (eq-eqb b b refl)))

-- ---- who settled what ----

-- the node stored the number for the ballot, or is trimmed at or above it
abbrev pub tells_settled : List Msg → ℕ → ℕ → ℕ → ℕ → Bool
tells_settled sent l n b y = any_of (told_by (says_settled n) l y b) sent

pub stored_settles : (sent : List Msg) (l n b y : ℕ) → StoredBy sent l y n b → tells_settled sent l n b y ≡ true
stored_settles sent l n b y i = any_from (told_by (says_settled n) l y b) (from_node l y b (bodies.Stored n)) sent i (and_from _ _ (and_from _ _ (eq-eqb l l refl) (eq-eqb n n refl)) (and_from _ _ (eq-eqb y y refl) (eq-eqb b b refl)))

pub trimmed_settles : (sent : List Msg) (l n b y s t : ℕ) → In (from_node l y b (bodies.TrimmedHere s t)) sent → epoch_of s ≡ epoch_of n → n ≤ t → tells_settled sent l n b y ≡ true
trimmed_settles sent l n b y s t i e h = any_from (told_by (says_settled n) l y b) (from_node l y b (bodies.TrimmedHere s t)) sent i
    (and_from _ _ (and_from _ _ (eq-eqb l l refl) (and_from _ _ (eq-eqb (epoch_of s) (epoch_of n) e) (le-leb n t h))) (and_from _ _ (eq-eqb y y refl) (eq-eqb b b refl)))

-- how a node settled a number
pub record TrimmedBy (sent : List Msg) (l y n b : ℕ) : Type 0 where
  pub asked : ℕ
  pub trim : ℕ
  pub epoch : epoch_of asked ≡ epoch_of n
  pub covers : n ≤ trim
  pub told_so : In (from_node l y b (bodies.TrimmedHere asked trim)) sent

settled_body : (n : ℕ) (b : Body) → says_settled n b ≡ true → (b ≡ bodies.Stored n) ⊎ ((s t : ℕ) × (b ≡ bodies.TrimmedHere s t) × (epoch_of s ≡ epoch_of n) × (n ≤ t))
settled_body n (bodies.Stored s) h = inl (ap bodies.Stored (eqb-true s n h))
settled_body n (bodies.TrimmedHere s t) h = let p = and_parts (epoch_of s == epoch_of n) (nat_le n t) h in inr (s, t, refl, eqb-true _ _ p.0, leb-true _ _ p.1)
settled_body n _ h = absurd cc

pub told_settled : (sent : List Msg) (l n b y : ℕ) → tells_settled sent l n b y ≡ true → StoredBy sent l y n b ⊎ TrimmedBy sent l y n b
told_settled sent l n b y h =
    let m = any_in (told_by (says_settled n) l y b) sent h in
    let p = and_parts ((m.0.log == l) && says_settled n m.0.body) (is_node y m.0.from && is_sequencer b m.0.to) m.2 in
    let q = and_parts (m.0.log == l) (says_settled n m.0.body) p.0 in
    let r = and_parts (is_node y m.0.from) (is_sequencer b m.0.to) p.1 in
    elim (settled_body n m.0.body q.1) [
      | inl z ↦ inl (subst (λ x. In x sent) (same_message m.0 l y b (bodies.Stored n) (node_who y m.0.from r.0) (sequencer_who b m.0.to r.1) (eqb-true _ _ q.0) z) m.1)
      | inr z ↦ inr (record { asked = z.0; trim = z.1; epoch = z.3; covers = z.4; told_so = subst (λ x. In x sent) (same_message m.0 l y b (bodies.TrimmedHere z.0 z.1) (node_who y m.0.from r.0) (sequencer_who b m.0.to r.1) (eqb-true _ _ q.0) z.2) m.1 })
    ]

-- as many nodes of a set as it needs copies stored the number for the ballot
abbrev pub Chosen : Spec → List Msg → ℕ → ℕ → ℕ → Type 0
Chosen s sent l n b = s.r ≤ how_many (tells_stored sent l n b) (nodes_of s)

-- ---- digests ----

-- a plan of a ballot between two ends below the number
pub record Ends (made : List Made) (l lo hi n : ℕ) : Type 0 where
  pub ballot : ℕ
  pub basis : Basis
  pub planned : In (plan_of l (epoch_of n) ballot basis) made
  pub above : lo < ballot
  pub below : ballot < hi
  pub before : plan_end (epoch_of n) basis.digest < esn_of n

-- an entry of the number, of at least the ballot
pub record Shows (es : List Entry) (n b : ℕ) : Type 0 where
  pub entry : Entry
  pub there : In entry es
  pub number : entry.number ≡ n
  pub least : b ≤ entry.ballot

-- the number is accounted for: trimmed, shown, or cut off by a plan between
abbrev pub Kept : List Made → ℕ → ℕ → ℕ → List Entry → ℕ → ℕ → Type 0
Kept made l hi t es n b = (n ≤ t) ⊎ (Shows es n b ⊎ Ends made l b hi n)

-- an entry in a digest of an epoch for a ballot
pub record Frozen (hs : List Happened) (made : List Made) (l e b : ℕ) (f : Entry) : Type 0 where
  pub below : f.ballot < b
  pub epoch : epoch_of f.number ≡ e
  pub place : Place f.number f.what
  pub says : Says hs made l f.ballot f.number f.what

-- what one node told: entries of lesser ballots, and, where it is whole, all that it had stored for them above what is known good
pub record ToldFacts (hs : List Happened) (made : List Made) (sent : List Msg) (l e b good : ℕ) (t : Told) : Type 0 where
  pub frozen : (f : Entry) → In f t.entries → Frozen hs made l e b f
  pub seen : t.whole ≡ true → (n a : ℕ) → epoch_of n ≡ e → good < esn_of n → a < b → StoredBy sent l t.node n a → Kept made l b t.trim t.entries n a

-- the node is whole in the digest
abbrev pub whole_in : List Told → ℕ → Bool
whole_in d y = any_of (λ (t : Told). (t.node == y) && (t.whole && not t.lost)) d

-- each whole node is one of the set
abbrev pub WholeCount : List Told → List ℕ → Type 0
WholeCount d set = how_many (λ (t : Told). t.whole && not t.lost) d ≤ how_many (whole_in d) set

pub record DigestFacts (hs : List Happened) (made : List Made) (sent : List Msg) (s : Spec) (l e b : ℕ) (d : List Told) : Type 0 where
  pub told : (t : Told) → In t d → ToldFacts hs made sent l e b (digest_lng d) t
  pub whole : WholeCount d (nodes_of s)

-- a plan that found what it says was made from enough whole nodes, and what they knew good lies in the epoch
pub record PlanFacts (hs : List Happened) (made : List Made) (sent : List Msg) (s : Spec) (l e b : ℕ) (d : List Told) : Type 0 where
  pub digest : DigestFacts hs made sent s l e b d
  pub enough : length (nodes_of s) < s.r + how_many (λ (t : Told). t.whole && not t.lost) d
  pub later : e < b
  pub good_most : digest_lng d ≤ last_esn - 1
