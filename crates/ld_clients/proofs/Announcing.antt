-- The messages of a retry: first those that tell of a close and of the released number, then asks and stores.
use Rattle.std.proofs.Common.{Bool, ◌+◌, ◌≡◌, ◌∙◌, ℕ, suc, refl, ap, sym, subst, true, false, cond, List, [], ◌∷◌, ◌++◌, take, drop, append_assoc, Option, Some, None, nat_lt, nat_le, ◌==◌, ◌&&◌, ◌||◌, not}
use Rattle.ld_ids.specs.Choice.{nodes_of}
use Rattle.ld_ids.specs.declared.set.Spec.{Spec}
use Rattle.ld_msg.specs.declared.msg.Who.{Who}
use Rattle.ld_msg.specs.declared.msg.Who.TheVariants as whos
use Rattle.ld_msg.specs.declared.msg.Msg.{Msg}
use Rattle.ld_msg.specs.declared.msg.Body.{Body}
use Rattle.ld_msg.specs.declared.msg.Body.TheVariants as bodies
use Rattle.ld_msg.specs.declared.msg.Summary.{Summary}
use Rattle.ld_msg.specs.Choice.{choice}
use Rattle.ld_msg.specs.Digest.{Told, no_digest, with_asks, is_spent, Plan, plan}
use Rattle.ld_msg.specs.Network.{posted}
use Rattle.ld_msg.specs.Register.{Register, View, Answer, Granted, AtLimit, Behind, Overtaken, Fails, Changed, close}
use Rattle.ld_msg.specs.Sequencer.{Sequencer, Recovery, Stage, Seals, Stores, Closes, Storing, Planned, Append, Attempt, Acts, Called, called, answered, after_close, goes_on, tells_clean, recovered_nodes, passes, preempt, by_look, looks_now, stores_plan, storing_of, planned, item_stores, item_nodes, append_stores, is_acked, raised, retries_appends, retries_stage, retries_recovery, with_stores, asks_again, closes_ready, next_try, next_wave, does_nothing, unless_preempted, on_retry, digest_asks, recovery_asks, to_each, rose, release_messages, released_of, acted_messages, is_fully_ready, is_ready_short, try_close, becomes, with_stage, summary_of}
use Rattle.ld_machine.specs.Calm.{announcements as announces, calm_messages}
use Rattle.ld_sequencer.specs.Whole.{Whole, sent_as}
use Rattle.ld_sequencer.specs.Announcing.{tells, told_first, announcements, announced}
use Rattle.ld_clients.proofs.Rows.{if_not}

-- each of them tells of a close or of the released number, or none does
abbrev pub AllTell : List (ℕ × Body) → Type 0
AllTell [] = Unit {0}
AllTell (b ∷ bs) = (tells b.1 ≡ true) × AllTell bs

abbrev pub NoneTells : List (ℕ × Body) → Type 0
NoneTells [] = Unit {0}
NoneTells (b ∷ bs) = (tells b.1 ≡ false) × NoneTells bs

all_each : (b : Body) (ys : List ℕ) → tells b ≡ true → AllTell (to_each b ys)
all_each b [] t = tt
all_each b (y ∷ ys) t = (t, all_each b ys t)

none_each : (b : Body) (ys : List ℕ) → tells b ≡ false → NoneTells (to_each b ys)
none_each b [] t = tt
none_each b (y ∷ ys) t = (t, none_each b ys t)

all_append : (xs ys : List (ℕ × Body)) → AllTell xs → AllTell ys → AllTell (xs ++ ys)
all_append [] ys a b = b
all_append (x ∷ xs) ys a b = (a.0, all_append xs ys a.1 b)

none_append : (xs ys : List (ℕ × Body)) → NoneTells xs → NoneTells ys → NoneTells (xs ++ ys)
none_append [] ys a b = b
none_append (x ∷ xs) ys a b = (a.0, none_append xs ys a.1 b)

none_if : (b : Bool) (xs ys : List (ℕ × Body)) → NoneTells xs → NoneTells ys → NoneTells (cond b xs ys)
none_if true xs ys a c = a
none_if false xs ys a c = c

-- ---- the messages by kind ----

pub record Kinds (a : Acts) : Type 0 where
  pub cleans : AllTell a.cleans
  pub asks : NoneTells a.asks
  pub stores : NoneTells a.stores

kinds_if : (b : Bool) (x y : Acts) → Kinds x → Kinds y → Kinds (cond b x y)
kinds_if true x y k l = k
kinds_if false x y k l = l

no_asks : (d : List Told) → NoneTells (digest_asks d)
no_asks [] = tt
no_asks (t ∷ d) = none_if t.whole (digest_asks d) ((t.node, bodies.DigestAsk t.asked) ∷ digest_asks d) (no_asks d) (refl, no_asks d)

no_items : (s : Spec) (lost : List ℕ) (loss : Bool) (lng wave : ℕ) (is : List (ℕ × Planned)) → NoneTells (item_stores s lost loss lng wave is)
no_items s lost loss lng wave [] = tt
no_items s lost loss lng wave (i ∷ is) = none_append (to_each (bodies.Store i.0 lng i.1.what) (item_nodes s lost loss wave i.0 i.1.settled)) (item_stores s lost loss lng wave is) (none_each _ _ refl) (no_items s lost loss lng wave is)

no_appends : (s : Spec) (lost : List ℕ) (lng : ℕ) (ps : List (ℕ × Append)) → NoneTells (append_stores s lost lng ps)
no_appends s lost lng [] = tt
no_appends s lost lng (p ∷ ps) = none_append _ (append_stores s lost lng ps) (none_if (is_acked s p.1) [] _ tt (none_each _ _ refl)) (no_appends s lost lng ps)

quiet : (q : Sequencer) → Kinds (does_nothing q)
quiet q = record { cleans = tt; asks = tt; stores = tt }

raises : (q : Sequencer) → Kinds (retries_appends (does_nothing q))
raises q = record { cleans = tt; asks = tt; stores = no_appends q.spec q.lost q.lng (raised q.spec q.appends) }

next_epoch : (looks : ℕ → View) (a : Acts) (lce : ℕ) → Kinds a → Kinds (goes_on looks a lce)
next_epoch looks a lce k = record { cleans = k.cleans; asks = none_if (nat_lt (lce + 1) a.sequencer.epoch) _ [] (no_asks (no_digest (looks (lce + 1)).spec (lce + 1))) tt; stores = k.stores }

told_clean : (a : Acts) (epoch : ℕ) (y : Summary) → Kinds a → Kinds (tells_clean a epoch y)
told_clean a epoch y k = record { cleans = all_each (bodies.Clean epoch y) (recovered_nodes a.sequencer.recovery) refl; asks = k.asks; stores = k.stores }

preempted : (a : Acts) (by : ℕ) → Kinds a → Kinds (preempt a by)
preempted a by k = record { cleans = k.cleans; asks = k.asks; stores = k.stores }

plan_stored : (a : Acts) (v : Recovery) (p : Plan) → Kinds a → Kinds (stores_plan a v p)
plan_stored a v p k = record { cleans = k.cleans; asks = k.asks; stores = no_items v.spec v.lost p.loss p.lng 0 (planned p.items) }

looked : (looks : ℕ → View) (a : Acts) (v : Recovery) (d : List Told) (y : Option Summary) (epoch : ℕ) → Kinds a → Kinds (by_look looks a v d y epoch)
looked looks a v d (Some y) epoch k = next_epoch looks (tells_clean a v.epoch y) v.epoch (told_clean a v.epoch y k)
looked looks a v d None epoch k = kinds_if (epoch == a.sequencer.epoch) _ _ (plan_stored a v (plan v.epoch true d) k) (preempted a epoch k)

closing : (a : Acts) (v : Recovery) (g : Storing) → Kinds a → Kinds (closes_ready a v g)
closing a v g k = kinds_if (is_fully_ready v.spec g || is_ready_short v.spec v.lost g)
    (try_close (becomes a (with_stage a.sequencer v (Closes (summary_of a.sequencer.epoch g) (not (is_fully_ready v.spec g))))) v.epoch (summary_of a.sequencer.epoch g) (not (is_fully_ready v.spec g)))
    (becomes a (with_stage a.sequencer v (Stores g)))
    (record { cleans = k.cleans; asks = k.asks; stores = k.stores }) (record { cleans = k.cleans; asks = k.asks; stores = k.stores })

staged : (looks : ℕ → View) (a : Acts) (v : Recovery) (s : Stage) → Kinds a → Kinds (retries_stage looks a v s)
staged looks a v (Seals d) k = kinds_if (is_spent v.spec d) (with_stores a.stores (looks_now looks (record a { stores = [] }) v d)) (asks_again a v (with_asks v.epoch d))
    (let l : Kinds (looks_now looks (record a { stores = [] }) v d) = looked looks (record a { stores = [] }) v d (looks v.epoch).summary (looks v.epoch).epoch (record { cleans = k.cleans; asks = k.asks; stores = tt }) in
    record { cleans = l.cleans; asks = l.asks; stores = none_append _ a.stores l.stores k.stores })
    (record { cleans = k.cleans; asks = no_asks (with_asks v.epoch d); stores = k.stores })
staged looks a v (Stores g) k = closing (record a { stores = item_stores v.spec v.lost g.loss g.lng (next_wave g.wave) g.items ++ a.stores }) v (next_try g)
    (record { cleans = k.cleans; asks = k.asks; stores = none_append _ a.stores (no_items v.spec v.lost g.loss g.lng (next_wave g.wave) g.items) k.stores })
staged looks a v (Closes y short) k = record { cleans = k.cleans; asks = k.asks; stores = k.stores }

recovering : (looks : ℕ → View) (a : Acts) (o : Option Recovery) → Kinds a → Kinds (retries_recovery looks a o)
recovering looks a None k = k
recovering looks a (Some v) k = staged looks a v v.stage k

unless : (o : Option ℕ) (a b : Acts) → Kinds a → Kinds b → Kinds (unless_preempted o a b)
unless None a b k l = k
unless (Some by) a b k l = l

retry_kinds : (looks : ℕ → View) (q : Sequencer) → Kinds (on_retry looks q)
unfolding on_retry
retry_kinds looks q = unless q.preempted _ _ (recovering looks (retries_appends (does_nothing q)) q.recovery (raises q)) (quiet q)

close_kinds : (looks : ℕ → View) (a : Acts) (epoch : ℕ) (y : Summary) (d : Answer) → Kinds a → Kinds (after_close looks a epoch y d)
unfolding after_close
close_kinds looks a epoch y Granted k = let l = next_epoch looks (tells_clean a epoch y) epoch (told_clean a epoch y k) in record { cleans = l.cleans; asks = l.asks; stores = l.stores }
close_kinds looks a epoch y AtLimit k = k
close_kinds looks a epoch y (Behind lce) k = kinds_if (nat_le a.sequencer.epoch lce) _ _ (preempted a (lce + 1) k) (next_epoch looks a lce k)
close_kinds looks a epoch y (Overtaken by) k = preempted a by k
close_kinds looks a epoch y Fails k = record { cleans = k.cleans; asks = k.asks; stores = k.stores }

called_kinds : (looks : ℕ → View) (r : Register) (a : Acts) (ts : List Attempt) → Kinds a → Kinds (called looks r a ts).acts
called_kinds looks r a [] k = k
called_kinds looks r a (t ∷ ts) k = close_kinds looks a t.epoch t.summary (close r a.sequencer.log t.epoch t.summary t.short).answer k

-- what a retry sends
pub retried_kinds : (looks : ℕ → View) (r : Register) (q : Sequencer) → Kinds (called looks r (on_retry looks q) (on_retry looks q).tries).acts
retried_kinds looks r q = called_kinds looks r (on_retry looks q) (on_retry looks q).tries (retry_kinds looks q)

-- ---- where the announcement stands ----

abbrev put_in : List Msg → List Msg → List Msg
put_in more ms = take (told_first ms) ms ++ (more ++ drop (told_first ms) ms)

none_first : (f : Who) (l : ℕ) (ys : List (ℕ × Body)) → NoneTells ys → told_first (posted f l ys) ≡ 0
none_first f l [] n = refl
none_first f l (y ∷ ys) n = ap (λ b. cond b (suc (told_first (posted f l ys))) 0) n.0

put_here : (f : Who) (l : ℕ) (more : List Msg) (xs ys : List (ℕ × Body)) → AllTell xs → NoneTells ys → put_in more (posted f l (xs ++ ys)) ≡ posted f l xs ++ (more ++ posted f l ys)
put_here f l more [] ys a n = ap (λ k. take k (posted f l ys) ++ (more ++ drop k (posted f l ys))) (none_first f l ys n)
put_here f l more (x ∷ xs) ys a n = let m : Msg = record { from = f; to = whos.Node x.0; log = l; body = x.1 } in
    ap (λ b. let k : ℕ = cond b (suc (told_first (posted f l (xs ++ ys)))) 0 in take k (m ∷ posted f l (xs ++ ys)) ++ (more ++ drop k (m ∷ posted f l (xs ++ ys)))) a.0
    ∙ ap (λ z. m ∷ z) (put_here f l more xs ys a.1 n)

posted_append : (f : Who) (l : ℕ) (xs ys : List (ℕ × Body)) → posted f l (xs ++ ys) ≡ posted f l xs ++ posted f l ys
posted_append f l [] ys = refl
posted_append f l (x ∷ xs) ys = ap (λ z. record { from = f; to = whos.Node x.0; log = l; body = x.1 } ∷ z) (posted_append f l xs ys)

releases_tell : (old new : Sequencer) → AllTell (release_messages old new)
releases_tell old new = all_if (rose old new) (to_each (bodies.Release (released_of new)) (nodes_of new.spec)) (all_each (bodies.Release (released_of new)) (nodes_of new.spec) refl) where
  all_if : (b : Bool) (xs : List (ℕ × Body)) → AllTell xs → AllTell (cond b xs [])
  all_if true xs a = a
  all_if false xs a = tt

-- the released number is told behind the call's own cleans and releases
pub announced_is : (w v : Whole) (a : Acts) → v.sequencer ≡ a.sequencer → v.sequencer.epoch ≡ w.sequencer.epoch → v.sequencer.log ≡ w.sequencer.log → Kinds a
    → announced v (sent_as w (acted_messages w.sequencer a)) ≡ sent_as w (calm_messages w.sequencer a)
announced_is w v a now epoch log k =
    let f : Who = whos.Sequencer w.sequencer.epoch in
    let l : ℕ = w.sequencer.log in
    let more : List (ℕ × Body) = announces a.sequencer in
    let firsts : List (ℕ × Body) = a.cleans ++ release_messages w.sequencer a.sequencer in
    let rest : List (ℕ × Body) = a.asks ++ a.stores in
    let whole : acted_messages w.sequencer a ≡ firsts ++ rest = sym (append_assoc a.cleans (release_messages w.sequencer a.sequencer) rest) in
    let same : sent_as v (announcements v.sequencer) ≡ posted f l more = λ i. posted (whos.Sequencer (epoch i)) (log i) (announcements (now i)) in
    ap (λ ms. put_in (sent_as v (announcements v.sequencer)) (posted f l ms)) whole
    ∙ (put_here f l (sent_as v (announcements v.sequencer)) firsts rest (all_append a.cleans (release_messages w.sequencer a.sequencer) k.cleans (releases_tell w.sequencer a.sequencer)) (none_append a.asks a.stores k.asks k.stores)
    ∙ (ap (λ z. posted f l firsts ++ (z ++ posted f l rest)) same
    ∙ (ap (λ z. posted f l firsts ++ z) (sym (posted_append f l more rest))
    ∙ (sym (posted_append f l firsts (more ++ rest))
    ∙ ap (posted f l) (append_assoc a.cleans (release_messages w.sequencer a.sequencer) (more ++ rest))))))
