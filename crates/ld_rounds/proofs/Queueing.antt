-- Queues, as messages come and go.
use Rattle.std.proofs.Common.{◌≡◌, ◌≤◌, ◌+◌, ℕ, zero, suc, List, [], ◌∷◌, ◌++◌, length, take, drop, set, refl, ap, sym, ◌∙◌, subst, arith}
use Rattle.std.proofs.lemmas.List.{append_assoc, append-nil, take-append-le, take_all, set-get_or}
use Rattle.ld_msg.specs.declared.msg.Msg.{Msg}
use Rattle.ld_msg.specs.Bounds.{IsMessage}
use Rattle.ld_node_bounds.specs.Messages.{AreMessages}
use Rattle.ld_rounds.specs.Queued.{queue_of, put_one, put_all, behind, PutsPart, TakesUpTo, IsPushing}

pub are_messages_push : (ms : List Msg) (m : Msg) → AreMessages ms → IsMessage m → AreMessages (ms ++ m ∷ [])
are_messages_push [] m a i = (i, tt)
are_messages_push (x ∷ xs) m a i = (a.0, are_messages_push xs m a.1 i)

pub first_push : (ms rest : List Msg) (m : Msg) → ms ≡ m ∷ rest → AreMessages ms → IsMessage m
first_push ms rest m e a = (subst AreMessages e a).0

pub rest_push : (ms rest : List Msg) (m : Msg) → ms ≡ m ∷ rest → AreMessages ms → AreMessages rest
rest_push ms rest m e a = (subst AreMessages e a).1

pub ruleset queue_rules = (are_messages_push, first_push, rest_push)

-- ---- some at a time ----

put_all-push : (qs : List (List Msg)) (ms : List Msg) (m : Msg) → put_all qs (ms ++ m ∷ []) ≡ put_one (put_all qs ms) m
put_all-push qs [] m = refl
put_all-push qs (x ∷ xs) m = put_all-push (put_one qs x) xs m

pub pushing_start : (ms : List Msg) (qs : List (List Msg)) → AreMessages ms → IsPushing ms qs qs [] ms
pushing_start ms qs a = record { whole = refl; put = refl; messages = a }

pub pushing_more : (all : List Msg) (before now new : List (List Msg)) (done left rest : List Msg) (m : Msg) → IsPushing all before now done left → left ≡ m ∷ rest → new ≡ put_one now m → IsPushing all before new (done ++ m ∷ []) rest
pushing_more all before now new done left rest m p e n = record {
  whole = append_assoc done (m ∷ []) rest ∙ (ap (λ l. done ++ l) (sym e) ∙ p.whole);
  put = n ∙ (ap (λ q. put_one q m) p.put ∙ sym (put_all-push before done m));
  messages = (subst AreMessages e p.messages).1;
}

pub pushing_next : (all : List Msg) (before now : List (List Msg)) (done left rest : List Msg) (m : Msg) → IsPushing all before now done left → left ≡ m ∷ rest → IsMessage m
pushing_next all before now done left rest m p e = (subst AreMessages e p.messages).0

pub pushing_part : (all : List Msg) (before now : List (List Msg)) (done left : List Msg) → IsPushing all before now done left → PutsPart before all now
pushing_part all before now done left p = record {
  count = length done;
  put = p.put ∙ ap (put_all before) (sym (ap (take (length done)) (sym p.whole) ∙ (take-append-le (length done) done left (omega arith) ∙ take_all (length done) done (omega arith))));
}

pub pushing_end : (all : List Msg) (before now : List (List Msg)) (done left : List Msg) → IsPushing all before now done left → left ≡ [] → now ≡ put_all before all
pushing_end all before now done left p e = p.put ∙ ap (put_all before) (sym (append-nil done) ∙ (ap (λ l. done ++ l) (sym e) ∙ p.whole))

-- ---- the first ones are taken ----

behind-drop : (k : ℕ) (ms : List Msg) → behind (drop k ms) ≡ drop (suc k) ms
behind-drop zero [] = refl
behind-drop zero (m ∷ ms) = refl
behind-drop (suc k) [] = refl
behind-drop (suc k) (m ∷ ms) = behind-drop k ms

one_more_taken : (k y : ℕ) (qs : List (List Msg)) → set (set qs y (drop k (queue_of qs y))) y (behind (queue_of (set qs y (drop k (queue_of qs y))) y)) ≡ set qs y (drop (suc k) (queue_of qs y))
one_more_taken k y [] = refl
one_more_taken k zero (q ∷ qs) = ap (λ l. l ∷ qs) (behind-drop k q)
one_more_taken k (suc y) (q ∷ qs) = ap (λ l. q ∷ l) (one_more_taken k y qs)

pub none_taken : (n y : ℕ) (qs : List (List Msg)) → TakesUpTo n qs y qs
none_taken n y qs = record { count = 0; few = omega arith; left = sym (set-get_or qs y []) }

pub taken_more : (n y : ℕ) (before now new : List (List Msg)) → TakesUpTo n before y now → new ≡ set now y (behind (queue_of now y)) → TakesUpTo (n + 1) before y new
taken_more n y before now new t e = record {
  count = suc t.count;
  few = (let f = t.few in omega (arith, f));
  left = e ∙ (ap (λ (qs : List (List Msg)). set qs y (behind (queue_of qs y))) t.left ∙ one_more_taken t.count y before);
}

pub taken_within : (n m y : ℕ) (before now : List (List Msg)) → n ≤ m → TakesUpTo n before y now → TakesUpTo m before y now
taken_within n m y before now l t = record { count = t.count; few = (let f = t.few in omega (arith, f, l)); left = t.left }
