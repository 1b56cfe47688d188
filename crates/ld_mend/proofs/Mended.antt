-- A node of which a log is told to be mended isn't lost for it.
use Rattle.std.proofs.Common.{◌≡◌, ◌≤◌, ◌<◌, ◌+◌, ℕ, List, [], ◌∷◌, Option, None, Some, Bool, true, false, ◌&&◌, ◌==◌, ◌/◌, ◌%◌, ◌^◌, ◌-◌, refl, sym, ap, ◌∙◌, arith, if◌then◌else◌, nat_lt, nat_le, true≢false}
use Rattle.std.proofs.lemmas.Bool.Decides.{nat_tests}
use Rattle.ld_table.specs.Table.{find}
use Rattle.ld_table.specs.Words.{is_in}
use Rattle.ld_lsn.specs.Number.{numbered, last_esn, home_epoch, home_esn}
use Rattle.ld_msg.specs.declared.msg.Summary.{Summary}
use Rattle.ld_msg.specs.declared.msg.Body.{Body}
use Rattle.ld_msg.specs.declared.msg.Body.TheVariants as bodies
use Rattle.ld_msg.specs.Register.{Register, epochs_of, lce_of, summary_shown}
use Rattle.ld_op.specs.Plain.{Plain, Log, log_of, is_lost, summary_at}
use Rattle.ld_op.specs.Answers.{read_answer, epoch_answer, lost_or, open_answer, clean_page}
use Rattle.ld_op.specs.Ticks.{Ticked, Cleans, Rebuilt, Asks, Nothing, gap_from, lowest_unclean, missing, refill_tick, lost_tick, tick_with}
use Rattle.ld_node.specs.Known.{Known}
use Rattle.ld_node.specs.Looks.{ticked, seen, answer_of}
use Rattle.ld_node.specs.declared.tick.Ticked.TheVariants as answers
use Rattle.ld_node.specs.Msgs.{released_in}
use Rattle.ld_mend.specs.Laws.{MendedIsNotLost}
use Rattle.ld_mend.specs.Course.{is_open, open_epoch, past_open}

idle : (id l : ℕ) (nodes : List ℕ) (t : Ticked) → answer_of id l nodes t ≡ answers.Nothing → t ≡ Nothing
idle id l nodes (Cleans epoch y) e = absurd cc
idle id l nodes Rebuilt e = absurd cc
idle id l nodes (Asks from) e = absurd cc
idle id l nodes Nothing e = refl

unseen : (known : Known) (l : ℕ) (t : Ticked) (b : Bool) → b ≡ true → (if b then t else Nothing) ≡ Nothing → t ≡ Nothing
unseen known l t true h e = e
unseen known l t false h e = absurd (true≢false (sym h))

no_clean : (g : Log) (o : Option Summary) → tick_with g o ≡ Nothing → (o ≡ None) × (lost_tick g ≡ Nothing)
no_clean g None e = (refl, e)
no_clean g (Some y) e = absurd cc

unclean : (lost b : Bool) (ms : List ℕ) → (if lost then refill_tick b ms else Nothing) ≡ Nothing → lost ≡ true → b ≡ false
unclean false b ms e h = absurd (true≢false (sym h))
unclean true true [] e h = absurd cc
unclean true false [] e h = refl
unclean true b (m ∷ ms) e h = absurd cc

step : (b : Bool) (e n : ℕ) → e + 1 ≤ n → e ≤ (if b then n else e)
step true e n h = omega arith
step false e n h = omega arith

least : (e : ℕ) (m : List (ℕ × Summary)) → e ≤ gap_from e m
least e [] = omega arith
least e (s ∷ ss) = step (s.0 == e) e (gap_from (e + 1) ss) (least (e + 1) ss)

le_true : (a b : ℕ) → a ≤ b → nat_le a b ≡ true
le_true a b h = grind (arith, nat_tests)

lt_true : (a b : ℕ) → a < b → nat_lt a b ≡ true
lt_true a b h = grind (arith, nat_tests)

le_if : (a b : ℕ) → nat_le a b ≡ true → a ≤ b
le_if a b h = grind (arith, nat_tests)

gt_if : (a b : ℕ) → nat_le a b ≡ false → b < a
gt_if a b h = grind (arith, nat_tests)

ge_if : (a b : ℕ) → nat_lt a b ≡ false → b ≤ a
ge_if a b h = grind (arith, nat_tests)

all_true : (x y z : Bool) → x ≡ true → y ≡ true → z ≡ true → (x && (y && z)) ≡ true
all_true true true true p q r = refl
all_true false y z p q r = absurd (true≢false (sym p))
all_true true false z p q r = absurd (true≢false (sym q))
all_true true true false p q r = absurd (true≢false (sym r))

two_true : (x y : Bool) → x ≡ true → y ≡ true → (x && y) ≡ true
two_true true true p q = refl
two_true false y p q = absurd (true≢false (sym p))
two_true true false p q = absurd (true≢false (sym q))

none_some : {X : Type 0} (x : X) → Some x ≡ None → ⊥
none_some x h = cc

shown_by : (v : Bool) (lce e : ℕ) (o : Option Summary) → nat_le e lce ≡ v → 1 ≤ e → (e ≤ lce → (y : Summary) × (o ≡ Some y)) → (if nat_le 1 e && nat_le e lce then o else None) ≡ None → lce < e
shown_by false lce e o q one closed h = gt_if e lce q
shown_by true lce e o q one closed h =
    let w = closed (le_if e lce q) in
    let both : (nat_le 1 e && nat_le e lce) ≡ true = two_true (nat_le 1 e) (nat_le e lce) (le_true 1 e one) q in
    let f : o ≡ None = sym (ap (λ b. if b then o else None) both) ∙ h in
    absurd (none_some w.0 (sym w.1 ∙ f))

lost_shut : (b : Bool) (generation round from end : ℕ) (other : Body) → b ≡ true → is_open (lost_or b generation round from end other) ≡ false
lost_shut true generation round from end other h = refl
lost_shut false generation round from end other h = absurd (true≢false (sym h))

ended_shut : (v : Bool) (one other : Body) → is_open one ≡ false → is_open other ≡ false → is_open (if v then one else other) ≡ false
ended_shut true one other p q = p
ended_shut false one other p q = q

not_open : (generation : ℕ) (g : Log) (released round from : ℕ) (o : Option Summary) → is_lost g (home_epoch from) ≡ true → is_open (epoch_answer generation g released round from o) ≡ false
not_open generation g released round from None lost = lost_shut (is_lost g (home_epoch from)) generation round from 0 (open_answer g released round from) lost
not_open generation g released round from (Some y) lost =
    ended_shut (nat_le y.end (home_esn from)) (bodies.ReadEnded round from (numbered (home_epoch from) y.end) y.loss) (lost_or (is_lost g (home_epoch from)) generation round from (numbered (home_epoch from) y.end) (clean_page g round from y)) refl
    (lost_shut (is_lost g (home_epoch from)) generation round from (numbered (home_epoch from) y.end) (clean_page g round from y) lost)

shut : (generation : ℕ) (g : Log) (released round from : ℕ) → is_lost g (home_epoch from) ≡ true → is_open (read_answer generation g released round from) ≡ false
unfolding read_answer
shut generation g released round from lost =
    ended_shut (nat_le from g.trim) (bodies.ReadTrim round from g.trim) (epoch_answer generation g released round from (summary_at g (home_epoch from))) refl (not_open generation g released round from (summary_at g (home_epoch from)) lost)

home : (e : ℕ) → home_epoch (numbered e last_esn) ≡ e
home e =
    let esn : numbered e last_esn % 2 ^ 32 ≡ last_esn = omega arith in
    let epoch : numbered e last_esn / 2 ^ 32 ≡ e = omega arith in
    ap (λ n. if (n == 0) && nat_lt 0 (numbered e last_esn / 2 ^ 32) then numbered e last_esn / 2 ^ 32 - 1 else numbered e last_esn / 2 ^ 32) esn ∙ epoch

seen_nothing : (known : Known) (p : Plain) (l : ℕ) (r : Register) → is_in l known.logs ≡ true → ticked known p l r ≡ Nothing → seen (log_of p l) r l ≡ Nothing
unfolding ticked
seen_nothing known p l r has e = unseen known l (seen (log_of p l) r l) (is_in l known.logs) has e

pub not_lost : MendedIsNotLost
not_lost id known c r s l has closed stands = by_lost (log_of s.plain l).lost refl
  where
    idles : (summary_shown r l (lowest_unclean (log_of s.plain l)) ≡ None) × (lost_tick (log_of s.plain l) ≡ Nothing)
    idles = no_clean (log_of s.plain l) (summary_shown r l (lowest_unclean (log_of s.plain l))) (seen_nothing known s.plain l r has (idle id l known.nodes (ticked known s.plain l r) stands.0))

    one : 1 ≤ lowest_unclean (log_of s.plain l)
    one = least 1 (log_of s.plain l).summaries

    above : lce_of r l < lowest_unclean (log_of s.plain l)
    above = shown_by (nat_le (lowest_unclean (log_of s.plain l)) (lce_of r l)) (lce_of r l) (lowest_unclean (log_of s.plain l)) (find (lowest_unclean (log_of s.plain l)) (epochs_of r l).summaries) refl one (λ h. closed (lowest_unclean (log_of s.plain l)) one h) idles.0

    by_lost : (b : Bool) → (log_of s.plain l).lost ≡ b → (log_of s.plain l).lost ≡ false
    by_lost false e = e
    by_lost true e =
        let u : lowest_unclean (log_of s.plain l) ≤ (log_of s.plain l).lost_to = ge_if (log_of s.plain l).lost_to (lowest_unclean (log_of s.plain l)) (unclean (log_of s.plain l).lost (nat_lt (log_of s.plain l).lost_to (lowest_unclean (log_of s.plain l))) (missing (log_of s.plain l)) idles.1 e) in
        let up = above in
        let here : is_lost (log_of s.plain l) (open_epoch r l) ≡ true = all_true (log_of s.plain l).lost (nat_lt 0 (open_epoch r l)) (nat_le (open_epoch r l) (log_of s.plain l).lost_to) e (lt_true 0 (open_epoch r l) (omega arith)) (le_true (open_epoch r l) (log_of s.plain l).lost_to (omega arith)) in
        let lost : is_lost (log_of s.plain l) (home_epoch (past_open r l)) ≡ true = ap (λ n. is_lost (log_of s.plain l) n) (home (open_epoch r l)) ∙ here in
        absurd (true≢false (sym stands.1 ∙ shut s.plain.generation (log_of s.plain l) (released_in s.released l) 1 (past_open r l) lost))
