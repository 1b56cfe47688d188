-- The bytes of a message are read as that message.
use Rattle.std.proofs.Common.{◌≡◌, ◌<◌, ◌≤◌, ◌^◌, ◌&&◌, ◌||◌, ◌==◌, not, ℕ, Bool, true, false, cond, List, [], ◌∷◌, ◌++◌, refl, ap, sym, ◌∙◌, length, nat_le, arith}
use Rattle.std.proofs.lemmas.Bool.{eq-eqb, or_left, or_right}
use Rattle.std.proofs.lemmas.Bool.Decides.{nat_tests}
use Rattle.std.proofs.lemmas.List.{append-nil}
use Rattle.byteorder.specs.Endian.{big_bytes}
use Rattle.ld_lsn.specs.Number.{epoch_of, esn_of, home_epoch}
use Rattle.ld_table.specs.Words.{is_in, any_of}
use Rattle.ld_ids.specs.Set.{IsSet, IsSubset, members, set_bits, bits_set}
use Rattle.ld_ids.proofs.Bits.{bits_small, set_again}
use Rattle.ld_msg.specs.declared.msg.Who.{Who}
use Rattle.ld_msg.specs.declared.msg.Who.TheVariants as whos
use Rattle.ld_msg.specs.declared.msg.What.{What}
use Rattle.ld_msg.specs.declared.msg.What.TheVariants.{Rec, Hole, Bridge, Plug, Withheld}
use Rattle.ld_msg.specs.declared.msg.Entry.{Entry}
use Rattle.ld_msg.specs.declared.msg.Summary.{Summary}
use Rattle.ld_msg.specs.declared.msg.Msg.{Msg}
use Rattle.ld_msg.specs.declared.msg.Body.{Body}
use Rattle.ld_msg.specs.declared.msg.Body.TheVariants as bodies
use Rattle.ld_msg.specs.Bounds.{Is32, IsLng, Is64, IsEpoch, IsEntry, IsSummary, IsPage, AreReadable, IsReadable, IsRecord, IsKept, AreKept, share_out, IsSequencerHere, IsActor, AsksIn, AnswersIn, Fits, IsMessage, ballot_of}
use Rattle.ld_wire.specs.declared.role.Role.{Role}
use Rattle.ld_wire.specs.declared.role.Role.TheVariants as roles
use Rattle.ld_fields.specs.declared.beside.Beside.{Beside}
use Rattle.ld_fields.specs.declared.beside.Beside.TheVariants as besides
use Rattle.ld_fields.specs.Fields.{Got, Off, follow, field}
use Rattle.ld_fields.specs.Items.{what_bytes, summary_bytes, flag, greatest_epoch, is_tag, may_stand, tagged, read_flag, read_summary, read_log}
use Rattle.ld_wire.specs.Roles.{may_be, IsIn, sender, receiver}
use Rattle.ld_wire.specs.Frames.{who_bytes, page_bytes, kind_of, body_bytes, msg_bytes}
use Rattle.ld_wire.specs.Judging.{is_actor, actor, read_who, page_beside, read_page, read_upto, asks_in, answers_in, may_store, read_store, read_sealed, read_lost, read_clean_here, read_trimmed, read_digest_ask, read_digest_page, read_clean, read_read_ask, read_asked, read_read_page, may_share, read_read_one, read_ended, answer, read_answer, read_stored, read_told, read_late, read_body, read_msg}
use Rattle.ld_fields.proofs.Spelling.{Stands, stands_as, nothing, at_end, Reads, field_reads, follow_reads, check_reads, got_reads, reads_as, tag_of, what_is, tagged_reads, number_fits, lng_passes, tag_passes, tag_fits, MayStand, kept_stands, all_stand, entries_reads, flag_reads, summary_reads, log_reads}

-- ---- actors ----

abbrev pub who_tag : Who → ℕ
who_tag (whos.Node n) = 0
who_tag (whos.Sequencer e) = 1
who_tag (whos.Reader r) = 2

abbrev pub who_number : Who → ℕ
who_number (whos.Node n) = n
who_number (whos.Sequencer e) = e
who_number (whos.Reader r) = r

who_is : (w : Who) (ys : List ℕ) → who_bytes w ++ ys ≡ big_bytes 1 (who_tag w) ++ (big_bytes 4 (who_number w) ++ ys)
who_is (whos.Node n) ys = refl
who_is (whos.Sequencer e) ys = refl
who_is (whos.Reader r) ys = refl

in_actor : (role : Role) (w : Who) → IsIn role w → IsActor w
in_actor roles.Node (whos.Node n) i = i
in_actor roles.Node (whos.Sequencer e) i = absurd i
in_actor roles.Node (whos.Reader r) i = absurd i
in_actor roles.Sequencer (whos.Node n) i = absurd i
in_actor roles.Sequencer (whos.Sequencer e) i = i
in_actor roles.Sequencer (whos.Reader r) i = absurd i
in_actor roles.Reader (whos.Node n) i = absurd i.1
in_actor roles.Reader (whos.Sequencer e) i = absurd i.0
in_actor roles.Reader (whos.Reader r) i = i.0
in_actor roles.Asker (whos.Node n) i = i
in_actor roles.Asker (whos.Sequencer e) i = absurd i
in_actor roles.Asker (whos.Reader r) i = i
in_actor roles.Anyone (whos.Node n) i = i
in_actor roles.Anyone (whos.Sequencer e) i = i
in_actor roles.Anyone (whos.Reader r) i = i

role_passes : (role : Role) (w : Who) → IsIn role w → may_be role (who_tag w) ≡ true
role_passes roles.Node (whos.Node n) i = refl
role_passes roles.Node (whos.Sequencer e) i = absurd i
role_passes roles.Node (whos.Reader r) i = absurd i
role_passes roles.Sequencer (whos.Node n) i = absurd i
role_passes roles.Sequencer (whos.Sequencer e) i = refl
role_passes roles.Sequencer (whos.Reader r) i = absurd i
role_passes roles.Reader (whos.Node n) i = absurd i.1
role_passes roles.Reader (whos.Sequencer e) i = absurd i.0
role_passes roles.Reader (whos.Reader r) i = refl
role_passes roles.Asker (whos.Node n) i = refl
role_passes roles.Asker (whos.Sequencer e) i = absurd i
role_passes roles.Asker (whos.Reader r) i = refl
role_passes roles.Anyone (whos.Node n) i = refl
role_passes roles.Anyone (whos.Sequencer e) i = refl
role_passes roles.Anyone (whos.Reader r) i = refl

actor_passes : (w : Who) → IsActor w → is_actor (who_tag w) (who_number w) ≡ true
actor_passes (whos.Node n) i = let a = i.0 in let b = i.1 in grind (arith, nat_tests)
actor_passes (whos.Sequencer e) i = let a = i.0 in let b = i.1 in grind (arith, nat_tests)
actor_passes (whos.Reader r) i = grind (arith, nat_tests)

actor_fits : (w : Who) → IsActor w → who_number w < 256 ^ 4
actor_fits (whos.Node n) i = let b = i.1 in omega arith
actor_fits (whos.Sequencer e) i = let b = i.1 in omega arith
actor_fits (whos.Reader r) i = omega arith

tag_small : (w : Who) → who_tag w < 256 ^ 1
tag_small (whos.Node n) = omega arith
tag_small (whos.Sequencer e) = omega arith
tag_small (whos.Reader r) = omega arith

actor_back : (w : Who) → actor (who_tag w) (who_number w) ≡ w
actor_back (whos.Node n) = refl
actor_back (whos.Sequencer e) = refl
actor_back (whos.Reader r) = refl

pub who_reads : (bs : List ℕ) (role : Role) (at : ℕ) (w : Who) (ys : List ℕ) → IsIn role w → Stands bs at (who_bytes w ++ ys) → Reads bs (read_who role bs at) w ys
unfolding read_who
who_reads bs role at w ys i s = let k = in_actor role w i in
    follow_reads bs (field 1 bs at) _ (who_tag w) w _ ys (field_reads 0 (who_tag w) bs at _ (tag_small w) (stands_as bs at _ _ (who_is w ys) s)) (λ at_number t.
    check_reads bs _ at _ w ys (role_passes role w i)
    (follow_reads bs (field 4 bs at_number) _ (who_number w) w _ ys (field_reads 3 (who_number w) bs at_number _ (actor_fits w k) t) (λ next u.
    check_reads bs _ at_number _ w ys (actor_passes w k) (reads_as bs _ (actor (who_tag w) (who_number w)) w ys (actor_back w) (got_reads bs _ next ys u)))))

-- ---- pages ----

-- records, holes and plugs stand everywhere
plain_stand : (beside : Beside) → (may_stand beside 0 ≡ true) × (may_stand beside 1 ≡ true) × (may_stand beside 3 ≡ true)
plain_stand besides.Bridges = (refl, refl, refl)
plain_stand besides.Nothing = (refl, refl, refl)
plain_stand besides.Withheld = (refl, refl, refl)

readable_stands : (to : Who) (w : What) → IsReadable to w → may_stand (page_beside to) (tag_of w) ≡ true
readable_stands to (Rec p) h = (plain_stand (page_beside to)).0
readable_stands to Hole h = (plain_stand (page_beside to)).1
readable_stands to Bridge h = absurd h
readable_stands to Plug h = (plain_stand (page_beside to)).2
readable_stands (whos.Node n) Withheld h = absurd h
readable_stands (whos.Sequencer e) Withheld h = absurd h
readable_stands (whos.Reader r) Withheld h = refl

pub readable_stand : (to : Who) (es : List Entry) → AreReadable to es → MayStand (page_beside to) es
readable_stand to [] h = tt
readable_stand to (e ∷ es) h = (readable_stands to e.what h.0, readable_stand to es h.1)

page_reads : (bs : List ℕ) (beside : Beside) (from upto at : ℕ) (es : List Entry) → IsPage from upto es → MayStand beside es → Stands bs at (page_bytes es) → Reads bs (read_page bs beside from upto at) es []
unfolding read_page
page_reads bs beside from upto at es i o s = follow_reads bs (field 2 bs at) _ (length es) es _ [] (field_reads 1 (length es) bs at _ (let f = i.few in omega arith) s) (λ next t.
    check_reads bs _ at _ es [] (let f = i.few in grind (arith, nat_tests)) (entries_reads bs beside upto es from next [] i.entries o i.rise (nothing bs next _ t)))

same_passes : (a b : ℕ) → a ≡ b → (a == b) ≡ true
same_passes a b e = grind (arith, nat_tests)

upto_passes : (from upto : ℕ) → from ≤ upto → home_epoch from ≡ home_epoch upto → (nat_le from upto && (home_epoch from == home_epoch upto)) ≡ true
upto_passes from upto h e = let a : nat_le from upto ≡ true = grind (arith, nat_tests) in let b : (home_epoch from == home_epoch upto) ≡ true = same_passes (home_epoch from) (home_epoch upto) e in ap (λ x. x && (home_epoch from == home_epoch upto)) a ∙ b

upto_reads : (bs : List ℕ) (from upto at : ℕ) (es : List Entry) (ys : List ℕ) → IsPage from upto es → Stands bs at (big_bytes 8 upto ++ ys) → Reads bs (read_upto bs from at) upto ys
unfolding read_upto
upto_reads bs from upto at es ys i s = follow_reads bs (field 8 bs at) _ upto upto _ ys (field_reads 7 upto bs at _ (let f = i.bound in omega arith) s) (λ next t.
    check_reads bs _ at _ upto ys (upto_passes from upto i.range i.home) (got_reads bs upto next ys t))

-- ---- the fields of each kind ----

last_number : (bs : List ℕ) (n at : ℕ) (b : Body) (f : ℕ → Body) → f n ≡ b → Is64 n → Stands bs at (big_bytes 8 n) → Reads bs (follow (field 8 bs at) (λ v next. Got (f v) next)) b []
last_number bs n at b f e i s = follow_reads bs (field 8 bs at) _ n b [] [] (field_reads 7 n bs at [] (omega arith) (nothing bs at _ s)) (λ next t. reads_as bs _ (f n) b [] e (got_reads bs (f n) next [] t))

last_word : (bs : List ℕ) (n at : ℕ) (b : Body) (f : ℕ → Body) → f n ≡ b → Is32 n → Stands bs at (big_bytes 4 n) → Reads bs (follow (field 4 bs at) (λ v next. Got (f v) next)) b []
last_word bs n at b f e i s = follow_reads bs (field 4 bs at) _ n b [] [] (field_reads 3 n bs at [] (omega arith) (nothing bs at _ s)) (λ next t. reads_as bs _ (f n) b [] e (got_reads bs (f n) next [] t))

record_tag : (w : What) → IsRecord w → tag_of w ≡ 0
record_tag (Rec p) h = refl
record_tag Hole h = absurd h
record_tag Bridge h = absurd h
record_tag Plug h = absurd h
record_tag Withheld h = absurd h

store_passes : (ballot n tag : ℕ) → is_tag n tag ≡ true → may_stand besides.Bridges tag ≡ true → (epoch_of n ≡ ballot → tag ≡ 0) → (b : Bool) → (epoch_of n == ballot) ≡ b → may_store ballot n tag ≡ true
store_passes ballot n tag h s f true e = let k : epoch_of n ≡ ballot = grind (arith, nat_tests) in let z = f k in let y : (tag == 0) ≡ true = grind (arith, nat_tests) in rw (h, s, e) y
store_passes ballot n tag h s f false e = rw (h, s, e) refl

store_reads : (bs : List ℕ) (ballot n lng at : ℕ) (w : What) → IsLng lng → IsEntry (record { number = n; ballot = ballot; what = w }) → IsKept w → (epoch_of n ≡ ballot → IsRecord w) → Stands bs at (big_bytes 8 n ++ (big_bytes 4 lng ++ what_bytes w)) → Reads bs (read_store ballot bs at) (bodies.Store n lng w) []
unfolding read_store
store_reads bs ballot n lng at w l i k o s =
    follow_reads bs (field 8 bs at) _ n _ _ [] (field_reads 7 n bs at _ (number_fits n i.epoch) s) (λ at_lng t.
    check_reads bs _ at _ _ [] (let a = i.epoch.0 in let b = i.epoch.1 in let c = i.from_one in let d = i.ballot in grind (arith, nat_tests))
    (follow_reads bs (field 4 bs at_lng) _ lng _ _ [] (field_reads 3 lng bs at_lng _ (omega arith) t) (λ at_tag u.
    check_reads bs _ at_lng _ _ [] (lng_passes lng l)
    (follow_reads bs (field 1 bs at_tag) _ (tag_of w) _ _ [] (field_reads 0 (tag_of w) bs at_tag _ (tag_fits w) (stands_as bs at_tag _ _ (sym (append-nil (what_bytes w)) ∙ what_is w []) u)) (λ at_what v.
    check_reads bs _ at_tag _ _ [] (store_passes ballot n (tag_of w) (tag_passes n w i.place) (kept_stands w k) (λ e. record_tag w (o e)) (epoch_of n == ballot) refl)
    (follow_reads bs (tagged bs at_what (tag_of w)) _ w _ _ [] (tagged_reads bs at_what w [] i.short v) (λ next z. got_reads bs _ next [] z)))))))

answers_pass : (to : Who) (round : ℕ) → AnswersIn to round → answers_in to round ≡ true
answers_pass (whos.Node n) round h = refl
answers_pass (whos.Sequencer e) round h = grind (arith, nat_tests)
answers_pass (whos.Reader r) round h = refl

asks_pass : (from : Who) (round : ℕ) → AsksIn from round → asks_in from round ≡ true
asks_pass (whos.Node n) round h = grind (arith, nat_tests)
asks_pass (whos.Sequencer e) round h = refl
asks_pass (whos.Reader r) round h = refl

lost_reads : (bs : List ℕ) (to : Who) (n round g end at : ℕ) → 1 ≤ n → Is64 n → Is32 round → AnswersIn to round → Is32 g → Is64 end → Stands bs at (big_bytes 8 n ++ (big_bytes 4 round ++ (big_bytes 4 g ++ big_bytes 8 end))) → Reads bs (read_lost to bs at) (bodies.LostHere n round g end) []
unfolding read_lost
lost_reads bs to n round g end at one i j o k l s =
    follow_reads bs (field 8 bs at) _ n _ _ [] (field_reads 7 n bs at _ (omega arith) s) (λ at_round t.
    check_reads bs _ at _ _ [] (grind (arith, nat_tests))
    (follow_reads bs (field 4 bs at_round) _ round _ _ [] (field_reads 3 round bs at_round _ (omega arith) t) (λ at_g u.
    check_reads bs _ at_round _ _ [] (answers_pass to round o)
    (follow_reads bs (field 4 bs at_g) _ g _ _ [] (field_reads 3 g bs at_g _ (omega arith) u) (λ at_end v. last_number bs end at_end _ (λ x. bodies.LostHere n round g x) refl l v)))))

digest_ask_reads : (bs : List ℕ) (ballot n at : ℕ) → ballot ≤ greatest_epoch → 1 ≤ epoch_of n → epoch_of n < ballot → 1 ≤ esn_of n → Stands bs at (big_bytes 8 n) → Reads bs (read_digest_ask ballot bs at) (bodies.DigestAsk n) []
unfolding read_digest_ask
digest_ask_reads bs ballot n at m a b c s =
    follow_reads bs (field 8 bs at) _ n _ [] [] (field_reads 7 n bs at [] (omega arith) (nothing bs at _ s)) (λ next t.
    check_reads bs _ at _ _ [] (grind (arith, nat_tests)) (got_reads bs _ next [] t))

digest_page_reads : (bs : List ℕ) (n upto t lng at : ℕ) (es : List Entry) → IsPage n upto es → AreKept es → Is64 t → IsLng lng → Stands bs at (big_bytes 8 n ++ (big_bytes 8 upto ++ (big_bytes 8 t ++ (big_bytes 4 lng ++ page_bytes es)))) → Reads bs (read_digest_page bs at) (bodies.DigestPage n upto t lng es) []
unfolding read_digest_page
digest_page_reads bs n upto t lng at es i o j k s =
    follow_reads bs (field 8 bs at) _ n _ _ [] (field_reads 7 n bs at _ (let a = i.range in let b = i.bound in omega arith) s) (λ at_upto u.
    follow_reads bs (read_upto bs n at_upto) _ upto _ _ [] (upto_reads bs n upto at_upto es _ i u) (λ at_trim v.
    follow_reads bs (field 8 bs at_trim) _ t _ _ [] (field_reads 7 t bs at_trim _ (omega arith) v) (λ at_lng w.
    follow_reads bs (field 4 bs at_lng) _ lng _ _ [] (field_reads 3 lng bs at_lng _ (omega arith) w) (λ at_page x.
    check_reads bs _ at_lng _ _ [] (lng_passes lng k)
    (follow_reads bs (read_page bs besides.Bridges n upto at_page) _ es _ [] [] (page_reads bs besides.Bridges n upto at_page es i (all_stand es o) x) (λ next y. got_reads bs _ next [] y))))))

asked_reads : (bs : List ℕ) (round n at : ℕ) (ys : List ℕ) → Is32 round → 1 ≤ n → Is64 n → Stands bs at (big_bytes 4 round ++ (big_bytes 8 n ++ ys)) → Reads bs (read_asked bs at) (round, n) ys
unfolding read_asked
asked_reads bs round n at ys i one j s =
    follow_reads bs (field 4 bs at) _ round _ _ ys (field_reads 3 round bs at _ (omega arith) s) (λ a t.
    follow_reads bs (field 8 bs a) _ n _ ys ys (field_reads 7 n bs a ys (omega arith) t) (λ next u.
    check_reads bs _ a _ _ ys (grind (arith, nat_tests)) (got_reads bs (round, n) next ys u)))

read_page_reads : (bs : List ℕ) (to : Who) (round n upto at : ℕ) (c : Bool) (es : List Entry) → Is32 round → 1 ≤ n → Is64 n → IsPage n upto es → AreReadable to es → Stands bs at (big_bytes 4 round ++ (big_bytes 8 n ++ (big_bytes 8 upto ++ (big_bytes 1 (flag c) ++ page_bytes es)))) → Reads bs (read_read_page to bs at) (bodies.ReadPage round n upto c es) []
unfolding read_read_page
read_page_reads bs to round n upto at c es i one j p o s =
    follow_reads bs (read_asked bs at) _ (round, n) _ _ [] (asked_reads bs round n at _ i one j s) (λ at_upto t.
    follow_reads bs (read_upto bs n at_upto) _ upto _ _ [] (upto_reads bs n upto at_upto es _ p t) (λ at_clean u.
    follow_reads bs (read_flag bs at_clean) _ c _ _ [] (flag_reads bs at_clean c _ u) (λ at_page v.
    follow_reads bs (read_page bs (page_beside to) n upto at_page) _ es _ [] [] (page_reads bs (page_beside to) n upto at_page es p (readable_stand to es o) v) (λ next y. got_reads bs _ next [] y))))

-- where each of these is among the others, no one is beside them
none_beside : (ns ms : List ℕ) → ((n : ℕ) → is_in n ms ≡ true → is_in n ns ≡ true) → any_of (λ n. not (is_in n ns)) ms ≡ false
none_beside ns [] h = refl
none_beside ns (m ∷ ms) h = ap (λ b. not b || any_of (λ n. not (is_in n ns)) ms) (h m (or_left (m == m) (is_in m ms) (eq-eqb m m refl))) ∙ none_beside ns ms (λ n k. h n (or_right (m == n) (is_in n ms) k))

shares : (set excluded : List Bool) → IsSubset excluded set → share_out excluded set ≡ true → may_share excluded set ≡ true
shares set excluded within left = rw (left, none_beside (members set) (members excluded) within) refl

bits_fit : (set : List Bool) → IsSet set → set_bits set < 256 ^ 2
bits_fit set is = let b = bits_small set is in omega arith

read_one_reads : (bs : List ℕ) (round n at : ℕ) (set excluded : List Bool) → Is32 round → 1 ≤ n → Is64 n → IsSubset excluded set → share_out excluded set ≡ true → IsSet set → IsSet excluded → Stands bs at (big_bytes 4 round ++ (big_bytes 8 n ++ (big_bytes 2 (set_bits set) ++ big_bytes 2 (set_bits excluded)))) → Reads bs (read_read_one bs at) (bodies.ReadOne round n set excluded) []
unfolding read_read_one
read_one_reads bs round n at set excluded i one j within left a b s =
    follow_reads bs (read_asked bs at) _ (round, n) _ _ [] (asked_reads bs round n at _ i one j s) (λ at_set t.
    follow_reads bs (field 2 bs at_set) _ (set_bits set) _ _ [] (field_reads 1 (set_bits set) bs at_set _ (bits_fit set a) t) (λ at_excluded u.
    follow_reads bs (field 2 bs at_excluded) _ (set_bits excluded) _ [] [] (field_reads 1 (set_bits excluded) bs at_excluded [] (bits_fit excluded b) (nothing bs at_excluded _ u)) (λ next v.
    check_reads bs _ at_excluded _ _ [] (rw (set_again set a, set_again excluded b) (shares set excluded within left))
    (reads_as bs _ (bodies.ReadOne round n (bits_set (set_bits set)) (bits_set (set_bits excluded))) _ [] (ap (λ x. bodies.ReadOne round n x (bits_set (set_bits excluded))) (set_again set a) ∙ ap (bodies.ReadOne round n set) (set_again excluded b)) (got_reads bs _ next [] v)))))

ended_reads : (bs : List ℕ) (round n end at : ℕ) (loss : Bool) → Is32 round → 1 ≤ n → Is64 n → Is64 end → Stands bs at (big_bytes 4 round ++ (big_bytes 8 n ++ (big_bytes 8 end ++ big_bytes 1 (flag loss)))) → Reads bs (read_ended bs at) (bodies.ReadEnded round n end loss) []
unfolding read_ended
ended_reads bs round n end at loss i one j k s =
    follow_reads bs (read_asked bs at) _ (round, n) _ _ [] (asked_reads bs round n at _ i one j s) (λ at_end t.
    follow_reads bs (field 8 bs at_end) _ end _ _ [] (field_reads 7 end bs at_end _ (omega arith) t) (λ at_loss u.
    follow_reads bs (read_flag bs at_loss) _ loss _ [] [] (flag_reads bs at_loss loss [] (nothing bs at_loss _ u)) (λ next v. got_reads bs _ next [] v)))

answer_reads : (bs : List ℕ) (kind round n x at : ℕ) (b : Body) → answer kind round n x ≡ b → Is32 round → 1 ≤ n → Is64 n → Is64 x → Stands bs at (big_bytes 4 round ++ (big_bytes 8 n ++ big_bytes 8 x)) → Reads bs (read_answer kind bs at) b []
unfolding read_answer
answer_reads bs kind round n x at b e i one j k s =
    follow_reads bs (read_asked bs at) _ (round, n) b _ [] (asked_reads bs round n at _ i one j s) (λ a t. last_number bs x a b (λ v. answer kind round n v) e k t)

pub sequencer_most : (w : Who) → IsSequencerHere w → (1 ≤ ballot_of w) × (ballot_of w ≤ greatest_epoch)
sequencer_most (whos.Node n) h = absurd h
sequencer_most (whos.Sequencer e) h = h
sequencer_most (whos.Reader r) h = absurd h

sealed_reads : (bs : List ℕ) (n k at : ℕ) → Is64 n → Is32 k → Stands bs at (big_bytes 8 n ++ big_bytes 4 k) → Reads bs (read_sealed bs at) (bodies.SealedHere n k) []
unfolding read_sealed
sealed_reads bs n k at i j s = follow_reads bs (field 8 bs at) _ n _ _ [] (field_reads 7 n bs at _ (omega arith) s) (λ a t. last_word bs k a _ (λ x. bodies.SealedHere n x) refl j t)

clean_here_reads : (bs : List ℕ) (n at : ℕ) (y : Summary) → Is64 n → IsSummary (epoch_of n) y → Stands bs at (big_bytes 8 n ++ summary_bytes y) → Reads bs (read_clean_here bs at) (bodies.CleanHere n y) []
unfolding read_clean_here
clean_here_reads bs n at y i j s = follow_reads bs (field 8 bs at) _ n _ _ [] (field_reads 7 n bs at _ (omega arith) s) (λ a t.
    follow_reads bs (read_summary bs (epoch_of n) a) _ y _ [] [] (summary_reads bs (epoch_of n) a y [] j (nothing bs a _ t)) (λ next u. got_reads bs _ next [] u))

trimmed_reads : (bs : List ℕ) (n t at : ℕ) → Is64 n → Is64 t → Stands bs at (big_bytes 8 n ++ big_bytes 8 t) → Reads bs (read_trimmed bs at) (bodies.TrimmedHere n t) []
unfolding read_trimmed
trimmed_reads bs n t at i j s = follow_reads bs (field 8 bs at) _ n _ _ [] (field_reads 7 n bs at _ (omega arith) s) (λ a u. last_number bs t a _ (λ x. bodies.TrimmedHere n x) refl j u)

clean_reads : (bs : List ℕ) (e at : ℕ) (y : Summary) → IsEpoch e → IsSummary e y → Stands bs at (big_bytes 4 e ++ summary_bytes y) → Reads bs (read_clean bs at) (bodies.Clean e y) []
unfolding read_clean
clean_reads bs e at y i j s = follow_reads bs (field 4 bs at) _ e _ _ [] (field_reads 3 e bs at _ (let b = i.1 in omega arith) s) (λ a t.
    check_reads bs _ at _ _ [] (let b = i.0 in let c = i.1 in grind (arith, nat_tests))
    (follow_reads bs (read_summary bs e a) _ y _ [] [] (summary_reads bs e a y [] j (nothing bs a _ t)) (λ next u. got_reads bs _ next [] u)))

read_ask_reads : (bs : List ℕ) (from : Who) (round n at : ℕ) → Is32 round → AsksIn from round → 1 ≤ n → Is64 n → Stands bs at (big_bytes 4 round ++ big_bytes 8 n) → Reads bs (read_read_ask from bs at) (bodies.ReadAsk round n) []
unfolding read_read_ask
read_ask_reads bs from round n at i o one j s = follow_reads bs (field 4 bs at) _ round _ _ [] (field_reads 3 round bs at _ (omega arith) s) (λ a t.
    check_reads bs _ at _ _ [] (asks_pass from round o)
    (follow_reads bs (field 8 bs a) _ n _ [] [] (field_reads 7 n bs a [] (omega arith) (nothing bs a _ t)) (λ next u. check_reads bs _ a _ _ [] (grind (arith, nat_tests)) (got_reads bs _ next [] u))))

pub body_reads : (bs : List ℕ) (from to : Who) (b : Body) (at : ℕ) → Fits from to b → Stands bs at (body_bytes b) → Reads bs (read_body (kind_of b) from to bs at) b []
unfolding read_body read_stored read_told read_late kind_of body_bytes
body_reads bs from to (bodies.Store n lng x) at h s = store_reads bs (ballot_of from) n lng at x h.1 h.2 h.3 h.4 s
body_reads bs from to (bodies.Stored n) at h s = last_number bs n at _ (λ v. bodies.Stored v) refl h.1 s
body_reads bs from to (bodies.SealedHere n k) at h s = sealed_reads bs n k at h.1 h.2 s
body_reads bs from to (bodies.LostHere n round g end) at h s = lost_reads bs to n round g end at h.2 h.3 h.4 h.5 h.6 h.7 s
body_reads bs from to (bodies.CleanHere n y) at h s = clean_here_reads bs n at y h.1 h.2 s
body_reads bs from to (bodies.TrimmedHere n t) at h s = trimmed_reads bs n t at h.1 h.2 s
body_reads bs from to (bodies.DigestAsk n) at h s = let m = sequencer_most from h.0.0 in digest_ask_reads bs (ballot_of from) n at m.1 h.1 h.2 h.3 s
body_reads bs from to (bodies.DigestPage n upto t lng es) at h s = digest_page_reads bs n upto t lng at es h.1 h.2 h.3 h.4 s
body_reads bs from to (bodies.Clean e y) at h s = clean_reads bs e at y h.1 h.2 s
body_reads bs from to (bodies.Release n) at h s = last_number bs n at _ (λ v. bodies.Release v) refl h.1 s
body_reads bs from to (bodies.Trim t) at h s = last_number bs t at _ (λ v. bodies.Trim v) refl h.1 s
body_reads bs from to (bodies.ReadAsk round n) at h s = read_ask_reads bs from round n at h.2 h.3 h.4 h.5 s
body_reads bs from to (bodies.ReadPage round n upto c es) at h s = read_page_reads bs to round n upto at c es h.0.2 h.0.3 h.0.4 h.1 h.2 s
body_reads bs from to (bodies.ReadEnded round n end loss) at h s = ended_reads bs round n end at loss h.0.2 h.0.3 h.0.4 h.1 s
body_reads bs from to (bodies.ReadTrim round n t) at h s = answer_reads bs 15 round n t at _ refl h.0.2 h.0.3 h.0.4 h.1 s
body_reads bs from to (bodies.ReadWait round n r) at h s = answer_reads bs 16 round n r at _ refl h.0.2 h.0.3 h.0.4 h.1 s
body_reads bs from to (bodies.ReadOne round n set excluded) at h s = read_one_reads bs round n at set excluded h.3 h.4 h.5 h.6 h.7 h.8 h.9 s

-- the actors are those of the kind
roles_fit : (from to : Who) (b : Body) → Fits from to b → IsIn (sender (kind_of b)) from × IsIn (receiver (kind_of b)) to
unfolding sender receiver kind_of
roles_fit from to (bodies.Store n lng x) h = (h.0.0, h.0.1)
roles_fit from to (bodies.Stored n) h = (h.0.0, h.0.1)
roles_fit from to (bodies.SealedHere n k) h = (h.0.0, h.0.1)
roles_fit from to (bodies.LostHere n round g end) h = (h.0, h.1)
roles_fit from to (bodies.CleanHere n y) h = (h.0.0, h.0.1)
roles_fit from to (bodies.TrimmedHere n t) h = (h.0.0, h.0.1)
roles_fit from to (bodies.DigestAsk n) h = (h.0.0, h.0.1)
roles_fit from to (bodies.DigestPage n upto t lng es) h = (h.0.0, h.0.1)
roles_fit from to (bodies.Clean e y) h = (h.0.0, h.0.1)
roles_fit from to (bodies.Release n) h = (h.0.0, h.0.1)
roles_fit from to (bodies.Trim t) h = (h.0.0, h.0.1)
roles_fit from to (bodies.ReadAsk round n) h = (h.0, h.1)
roles_fit from to (bodies.ReadPage round n upto c es) h = (h.0.0, h.0.1)
roles_fit from to (bodies.ReadEnded round n end loss) h = (h.0.0, h.0.1)
roles_fit from to (bodies.ReadTrim round n t) h = (h.0.0, h.0.1)
roles_fit from to (bodies.ReadWait round n r) h = (h.0.0, h.0.1)
roles_fit from to (bodies.ReadOne round n set excluded) h = ((h.0, h.1), h.2)

after_kind : (m : Msg) → Stands (msg_bytes m) 1 (who_bytes m.from ++ (who_bytes m.to ++ (big_bytes 4 m.log ++ body_bytes m.body)))
unfolding msg_bytes
after_kind m = record { within = omega arith; there = refl }

-- what stands behind the length of a message's frame is read as the message
pub msg_reads : (m : Msg) → IsMessage m → read_msg (kind_of m.body) (msg_bytes m) ≡ Got m (length (msg_bytes m))
unfolding read_msg
msg_reads m h = let i = roles_fit m.from m.to m.body h.fits in let bs : List ℕ = msg_bytes m in
    let r = follow_reads bs (read_who (sender (kind_of m.body)) bs 1) _ m.from m _ [] (who_reads bs (sender (kind_of m.body)) 1 m.from _ i.0 (after_kind m)) (λ at_to s.
    follow_reads bs (read_who (receiver (kind_of m.body)) bs at_to) _ m.to m _ [] (who_reads bs (receiver (kind_of m.body)) at_to m.to _ i.1 s) (λ at_log t.
    follow_reads bs (read_log bs at_log) _ m.log m _ [] (log_reads bs at_log m.log _ h.log t) (λ at_body u.
    follow_reads bs (read_body (kind_of m.body) m.from m.to bs at_body) _ m.body m [] [] (body_reads bs m.from m.to m.body at_body h.fits u) (λ next v.
    record { next = next; is = let b : nat_le (length bs) next ≡ true = (let n = at_end bs next v in grind (arith, nat_tests)) in ap (λ b. cond b (Got m next) (Off next)) b; behind = v })))) in
    r.is ∙ ap (λ n. Got m n) (at_end bs r.next r.behind)
