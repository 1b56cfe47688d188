-- Messages in the order of sending.
use Rattle.std.proofs.Common.{◌≡◌, ℕ, suc, arith, ◌+◌, ◌<◌, Bool, not, true, false, List, [], ◌∷◌, ◌++◌, length, drop, get_or, Some, if◌then◌else◌, refl, ap, sym, ◌∙◌, append_assoc, append-nil}
use Rattle.std.specs.List.{slice_get}
use Rattle.std.specs.Prelude.{◌&&◌}
use Rattle.ld_table.specs.Words.{is_in, without}
use Rattle.ld_table.proofs.Places.{drop_at_place, drop_item}
use Rattle.ld_ids.specs.declared.set.Spec.{Spec}
use Rattle.ld_msg.specs.declared.msg.Msg.{Msg}
use Rattle.ld_msg.specs.declared.msg.Body.{Body}
use Rattle.ld_msg.specs.declared.msg.Body.TheVariants as bodies
use Rattle.ld_msg.specs.declared.msg.Who.{Who}
use Rattle.ld_msg.specs.declared.msg.Who.TheVariants as whos
use Rattle.ld_msg.specs.Digest.{Told}
use Rattle.ld_msg.specs.Network.{posted}
use Rattle.ld_msg.specs.Sequencer.{to_each, digest_asks, item_stores, Planned}
use Rattle.ld_recovery.specs.declared.send.Sender.{Sender}
use Rattle.ld_recovery.specs.Sending.{sent}

pub posted-append : (who : Who) (l : ℕ) (bs cs : List (ℕ × Body)) → posted who l (bs ++ cs) ≡ posted who l bs ++ posted who l cs
posted-append who l [] cs = refl
posted-append who l (b ∷ bs) cs = ap (λ r. record { from = who; to = whos.Node b.0; log = l; body = b.1 } ∷ r) (posted-append who l bs cs)

-- one more is served, and one fewer is left
sent_one : {X : Type 0} (f : List X → List (ℕ × Body)) → ((x : X) (xs : List X) → f (x ∷ xs) ≡ f (x ∷ []) ++ f xs) → (s : Sender) (xs : List X) (i : ℕ) (x : X) (out : List Msg) → drop i xs ≡ x ∷ drop (i + 1) xs
    → (out ++ sent s (f (x ∷ []))) ++ sent s (f (drop (i + 1) xs)) ≡ out ++ sent s (f (drop i xs))
sent_one f h s xs i x out e =
    append_assoc out _ _ ∙ ap (λ r. out ++ r) (sym (ap (λ l. sent s (f l)) e ∙ (ap (sent s) (h x (drop (i + 1) xs)) ∙ posted-append (whos.Sequencer s.epoch) s.log (f (x ∷ [])) (f (drop (i + 1) xs)))))

asks_if : (t : Told) (d : List (ℕ × Body)) (b : Bool) → (if b then d else (t.node, bodies.DigestAsk t.asked) ∷ d) ≡ (if b then [] else (t.node, bodies.DigestAsk t.asked) ∷ []) ++ d
asks_if t d true = refl
asks_if t d false = refl

asks_split : (t : Told) (d : List Told) → digest_asks (t ∷ d) ≡ digest_asks (t ∷ []) ++ digest_asks d
asks_split t d = asks_if t (digest_asks d) t.whole

pub asked_one : (s : Sender) (d : List Told) (i : ℕ) (t : Told) (out : List Msg) → i < length d → t ≡ get_or d i t → (out ++ sent s (digest_asks (t ∷ []))) ++ sent s (digest_asks (drop (i + 1) d)) ≡ out ++ sent s (digest_asks (drop i d))
asked_one s d i t out h e = sent_one digest_asks asks_split s d i t out (drop_item d i t h e)

each_split : (b : Body) (y : ℕ) (ys : List ℕ) → to_each b (y ∷ ys) ≡ to_each b (y ∷ []) ++ to_each b ys
each_split b y ys = refl

pub told_one : (s : Sender) (b : Body) (ys : List ℕ) (i y : ℕ) (out : List Msg) → slice_get ys i ≡ Some y → (out ++ sent s (to_each b (y ∷ []))) ++ sent s (to_each b (drop (i + 1) ys)) ≡ out ++ sent s (to_each b (drop i ys))
told_one s b ys i y out e = sent_one (to_each b) (each_split b) s ys i y out (drop_at_place ys i y e)

stores_split : (p : Spec) (lost : List ℕ) (loss : Bool) (lng wave : ℕ) (e : ℕ × Planned) (m : List (ℕ × Planned)) → item_stores p lost loss lng wave (e ∷ m) ≡ item_stores p lost loss lng wave (e ∷ []) ++ item_stores p lost loss lng wave m
stores_split p lost loss lng wave e m = ap (λ r. r ++ item_stores p lost loss lng wave m) (sym (append-nil _))

pub stored_one : (s : Sender) (p : Spec) (lost : List ℕ) (loss : Bool) (lng wave : ℕ) (m : List (ℕ × Planned)) (i : ℕ) (e : ℕ × Planned) (out : List Msg) → i < length m → e ≡ get_or m i e
    → (out ++ sent s (item_stores p lost loss lng wave (e ∷ []))) ++ sent s (item_stores p lost loss lng wave (drop (i + 1) m)) ≡ out ++ sent s (item_stores p lost loss lng wave (drop i m))
stored_one s p lost loss lng wave m i e out h g = sent_one (item_stores p lost loss lng wave) (stores_split p lost loss lng wave) s m i e out (drop_item m i e h g)

-- ---- the nodes that are left ----

abbrev pub left_of : List ℕ → List ℕ → List ℕ → List ℕ
left_of lost settled ys = without settled (without lost ys)

-- whether a node is left
abbrev pub is_left : List ℕ → List ℕ → ℕ → Bool
is_left lost settled y = not (is_in y lost) && not (is_in y settled)

left_if : (lost settled : List ℕ) (y : ℕ) (ys : List ℕ) (a b : Bool) → is_in y lost ≡ a → is_in y settled ≡ b → left_of lost settled (y ∷ ys) ≡ (if not a && not b then y ∷ left_of lost settled ys else left_of lost settled ys)
left_if lost settled y ys true b h k = ap (λ (t : Bool). without settled (if not t then y ∷ without lost ys else without lost ys)) h
left_if lost settled y ys false true h k = ap (λ (t : Bool). without settled (if not t then y ∷ without lost ys else without lost ys)) h ∙ ap (λ (t : Bool). if not t then y ∷ left_of lost settled ys else left_of lost settled ys) k
left_if lost settled y ys false false h k = ap (λ (t : Bool). without settled (if not t then y ∷ without lost ys else without lost ys)) h ∙ ap (λ (t : Bool). if not t then y ∷ left_of lost settled ys else left_of lost settled ys) k

left_more : (lost settled : List ℕ) (y : ℕ) (ys : List ℕ) → left_of lost settled (y ∷ ys) ≡ (if is_left lost settled y then y ∷ left_of lost settled ys else left_of lost settled ys)
left_more lost settled y ys = left_if lost settled y ys (is_in y lost) (is_in y settled) refl refl

pub left_one : (s : Sender) (b : Body) (lost settled ys : List ℕ) (i y : ℕ) (out : List Msg) → slice_get ys i ≡ Some y → is_left lost settled y ≡ true
    → (out ++ sent s (to_each b (y ∷ []))) ++ sent s (to_each b (left_of lost settled (drop (i + 1) ys))) ≡ out ++ sent s (to_each b (left_of lost settled (drop i ys)))
left_one s b lost settled ys i y out e h =
    let rest = left_of lost settled (drop (i + 1) ys) in
    let all : left_of lost settled (drop i ys) ≡ y ∷ rest = ap (left_of lost settled) (drop_at_place ys i y e) ∙ (left_more lost settled y (drop (i + 1) ys) ∙ ap (λ (t : Bool). if t then y ∷ rest else rest) h) in
    append_assoc out _ _ ∙ ap (λ (l : List ℕ). out ++ sent s (to_each b l)) (sym all)

pub left_none : (s : Sender) (b : Body) (lost settled ys : List ℕ) (i y : ℕ) (out : List Msg) → slice_get ys i ≡ Some y → is_left lost settled y ≡ false
    → out ++ sent s (to_each b (left_of lost settled (drop (i + 1) ys))) ≡ out ++ sent s (to_each b (left_of lost settled (drop i ys)))
left_none s b lost settled ys i y out e h =
    let rest = left_of lost settled (drop (i + 1) ys) in
    let all : left_of lost settled (drop i ys) ≡ rest = ap (left_of lost settled) (drop_at_place ys i y e) ∙ (left_more lost settled y (drop (i + 1) ys) ∙ ap (λ (t : Bool). if t then y ∷ rest else rest) h) in
    ap (λ (l : List ℕ). out ++ sent s (to_each b l)) (sym all)

lost_if : (lost : List ℕ) (y : ℕ) (ys : List ℕ) (b : Bool) → is_in y lost ≡ b → without lost (y ∷ ys) ≡ (if b then without lost ys else y ∷ without lost ys)
lost_if lost y ys true h = ap (λ (t : Bool). if not t then y ∷ without lost ys else without lost ys) h
lost_if lost y ys false h = ap (λ (t : Bool). if not t then y ∷ without lost ys else without lost ys) h

-- one node more that is lost, or that isn't
pub lost_one : (lost ys : List ℕ) (i y : ℕ) → slice_get ys i ≡ Some y → is_in y lost ≡ true → length (without lost (drop i ys)) ≡ length (without lost (drop (i + 1) ys))
lost_one lost ys i y e h = ap (λ (l : List ℕ). length (without lost l)) (drop_at_place ys i y e) ∙ ap length (lost_if lost y (drop (i + 1) ys) true h)

pub found_one : (lost ys : List ℕ) (i y : ℕ) → slice_get ys i ≡ Some y → is_in y lost ≡ false → length (without lost (drop i ys)) ≡ length (without lost (drop (i + 1) ys)) + 1
found_one lost ys i y e h = ap (λ (l : List ℕ). length (without lost l)) (drop_at_place ys i y e) ∙ (ap length (lost_if lost y (drop (i + 1) ys) false h) ∙ (let s : suc (length (without lost (drop (i + 1) ys))) ≡ length (without lost (drop (i + 1) ys)) + 1 = omega arith in s))
