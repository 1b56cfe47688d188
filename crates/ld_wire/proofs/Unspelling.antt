-- What is read as a message is spelled by its bytes.
use Rattle.std.proofs.Common.{◌≡◌, ◌<◌, ◌≤◌, ◌&&◌, ◌||◌, ◌==◌, not, inl, inr, ℕ, suc, zero, Bool, true, false, cond, List, [], ◌∷◌, ◌++◌, refl, ap, sym, ◌∙◌, subst, append_assoc, drop, length, nat_le, nat_lt, arith}
use Rattle.std.proofs.lemmas.Bool.{or_cases}
use Rattle.std.proofs.lemmas.Bool.Decides.{nat_tests}
use Rattle.std.proofs.lemmas.List.{append-nil}
use Rattle.byteorder.specs.Endian.{big_bytes}
use Rattle.ld_lsn.specs.Number.{epoch_of, esn_of, home_epoch}
use Rattle.ld_ids.specs.Bytes.{AreBytes}
use Rattle.ld_table.specs.Words.{is_in, any_of}
use Rattle.ld_ids.specs.Set.{IsSet, set_bits, bits_set, bits_flags, members}
use Rattle.ld_ids.proofs.Bits.{number_again}
use Rattle.ld_msg.specs.declared.msg.Who.{Who}
use Rattle.ld_msg.specs.declared.msg.Who.TheVariants as whos
use Rattle.ld_msg.specs.declared.msg.What.{What}
use Rattle.ld_msg.specs.declared.msg.What.TheVariants.{Rec, Hole, Bridge, Plug, Withheld}
use Rattle.ld_msg.specs.declared.msg.Entry.{Entry}
use Rattle.ld_msg.specs.declared.msg.Msg.{Msg}
use Rattle.ld_msg.specs.declared.msg.Body.{Body}
use Rattle.ld_msg.specs.declared.msg.Body.TheVariants as bodies
use Rattle.ld_msg.specs.Bounds.{Is32, Is64, IsEpoch, AreEntries, RiseWithin, IsPage, AreReadable, IsReadable, IsRecord, share_out, IsActor, AsksIn, AnswersIn, Fits, IsMessage, ballot_of, last_reader}
use Rattle.ld_wire.specs.declared.role.Role.{Role}
use Rattle.ld_wire.specs.declared.role.Role.TheVariants as roles
use Rattle.ld_fields.specs.declared.beside.Beside.{Beside}
use Rattle.ld_fields.specs.declared.beside.Beside.TheVariants as besides
use Rattle.ld_fields.specs.Fields.{Got, follow, field}
use Rattle.ld_fields.specs.Items.{entries_bytes, flag, greatest_epoch, greatest_lng, is_number, is_tag, may_stand, tagged, read_flag, read_summary, read_log}
use Rattle.ld_wire.specs.Roles.{may_be, IsIn, sender, receiver}
use Rattle.ld_wire.specs.Frames.{who_bytes, page_bytes, kind_of, body_bytes}
use Rattle.ld_wire.specs.Judging.{is_actor, actor, read_who, page_beside, read_page, read_upto, asks_in, answers_in, may_store, read_store, read_sealed, read_lost, read_clean_here, read_trimmed, read_digest_ask, read_digest_page, read_clean, read_read_ask, read_asked, read_read_page, read_read_one, read_ended, answer, read_answer, read_stored, read_told, read_late, read_body, is_kind, read_msg}
use Rattle.ld_fields.proofs.Spelling.{tag_of, after_tag, MayStand}
use Rattle.ld_fields.proofs.Unspelling.{ended, gone, Spelled, spelled_on, Spells, field_spells, by_follow, by_check, by_got, tagged_spelled, entries_spelled, within_is, both_true, tag_most, place_of, what_made, stands_kept, all_kept, le_is, same_is, lng_is, flag_spelled, summary_spelled, log_spelled}
use Rattle.ld_wire.proofs.Spelling.{who_tag, who_number, sequencer_most}

-- ---- pages ----

pub record PageRead (bs : List ℕ) (beside : Beside) (from upto at next : ℕ) (es : List Entry) : Type 0 where
  pub spelled : Spelled bs at next (page_bytes es)
  pub few : length es ≤ 64
  pub are : AreEntries es
  pub rise : RiseWithin from upto es
  pub stand : MayStand beside es

page_spelled : (bs : List ℕ) (beside : Beside) (from upto at : ℕ) (es : List Entry) (next : ℕ) → AreBytes bs → read_page bs beside from upto at ≡ Got es next → PageRead bs beside from upto at next es
unfolding read_page
page_spelled bs beside from upto at es next h r =
    by_follow (field 2 bs at) _ es next r (λ count a f r. by_check _ at _ es next r (λ ok r.
    let s = field_spells 2 bs at count a h f in let u = entries_spelled bs beside upto count from a es next h s.spelled.within r in let e = u.count_is in let m = le_is count 64 ok in record {
      spelled = spelled_on bs at a next (big_bytes 2 (length es)) (entries_bytes es) (subst (λ x. Spelled bs at a (big_bytes 2 x)) (sym e) s.spelled) u.spelled;
      few = omega arith;
      are = u.are;
      rise = u.rise;
      stand = u.stand;
    }))

pub record UptoRead (bs : List ℕ) (from at next upto : ℕ) : Type 0 where
  pub spelled : Spelled bs at next (big_bytes 8 upto)
  pub bound : Is64 upto
  pub range : from ≤ upto
  pub home : home_epoch from ≡ home_epoch upto

upto_spelled : (bs : List ℕ) (from at upto next : ℕ) → AreBytes bs → read_upto bs from at ≡ Got upto next → UptoRead bs from at next upto
unfolding read_upto
upto_spelled bs from at upto next h r =
    by_follow (field 8 bs at) _ upto next r (λ v a f r. by_check _ at _ upto next r (λ ok r. by_got v upto a next r (λ is n.
    let s = field_spells 8 bs at v a h f in let o = both_true (nat_le from v) (home_epoch from == home_epoch v) ok in let z = s.fits in
    subst (UptoRead bs from at next) is (subst (λ x. UptoRead bs from at x v) n (record {
      spelled = s.spelled;
      bound = omega arith;
      range = le_is from v o.0;
      home = same_is (home_epoch from) (home_epoch v) o.1;
    })))))

page_is : (bs : List ℕ) (beside : Beside) (from upto at mid to next : ℕ) (es : List Entry) → UptoRead bs from at mid upto → PageRead bs beside from upto to next es → IsPage from upto es
page_is bs beside from upto at mid to next es u p = record { range = u.range; bound = u.bound; home = u.home; few = p.few; entries = p.are; rise = p.rise }

readable_of : (to : Who) (w : What) → may_stand (page_beside to) (tag_of w) ≡ true → IsReadable to w
readable_of to (Rec p) h = tt
readable_of to Hole h = tt
readable_of (whos.Node n) Bridge h = absurd cc
readable_of (whos.Sequencer e) Bridge h = absurd cc
readable_of (whos.Reader r) Bridge h = absurd cc
readable_of to Plug h = tt
readable_of (whos.Node n) Withheld h = absurd cc
readable_of (whos.Sequencer e) Withheld h = absurd cc
readable_of (whos.Reader r) Withheld h = tt

are_readable : (to : Who) (es : List Entry) → MayStand (page_beside to) es → AreReadable to es
are_readable to [] h = tt
are_readable to (e ∷ es) h = (readable_of to e.what h.0, are_readable to es h.1)

-- ---- actors ----

pub record WhoRead (bs : List ℕ) (role : Role) (at next : ℕ) (w : Who) : Type 0 where
  pub spelled : Spelled bs at next (who_bytes w)
  pub is : IsIn role w

who_made : (tag n : ℕ) (w : Who) → tag ≡ who_tag w → n ≡ who_number w → big_bytes 1 tag ++ big_bytes 4 n ≡ who_bytes w
who_made tag n (whos.Node m) e f = ap (λ t. big_bytes 1 t ++ big_bytes 4 n) e ∙ ap (λ k. big_bytes 1 0 ++ big_bytes 4 k) f
who_made tag n (whos.Sequencer m) e f = ap (λ t. big_bytes 1 t ++ big_bytes 4 n) e ∙ ap (λ k. big_bytes 1 1 ++ big_bytes 4 k) f
who_made tag n (whos.Reader m) e f = ap (λ t. big_bytes 1 t ++ big_bytes 4 n) e ∙ ap (λ k. big_bytes 1 2 ++ big_bytes 4 k) f

role_tag : (role : Role) (tag : ℕ) → may_be role tag ≡ true → tag ≤ 2
role_tag roles.Node tag h = grind (arith, nat_tests)
role_tag roles.Sequencer tag h = grind (arith, nat_tests)
role_tag roles.Reader tag h = grind (arith, nat_tests)
role_tag roles.Asker tag h = grind (arith, nat_tests)
role_tag roles.Anyone tag h = grind (arith, nat_tests)

actor_tag : (tag n : ℕ) → tag ≤ 2 → tag ≡ who_tag (actor tag n)
actor_tag zero n h = refl
actor_tag (suc zero) n h = refl
actor_tag (suc (suc zero)) n h = refl
actor_tag (suc (suc (suc tag))) n h = absurd (omega arith)

actor_number : (tag n : ℕ) → tag ≤ 2 → n ≡ who_number (actor tag n)
actor_number zero n h = refl
actor_number (suc zero) n h = refl
actor_number (suc (suc zero)) n h = refl
actor_number (suc (suc (suc tag))) n h = absurd (omega arith)

actor_is : (tag n : ℕ) → tag ≤ 2 → is_actor tag n ≡ true → IsActor (actor tag n)
actor_is zero n h e = within_is 1 16 n e
actor_is (suc zero) n h e = within_is 1 greatest_epoch n e
actor_is (suc (suc zero)) n h e = le_is n last_reader e
actor_is (suc (suc (suc tag))) n h e = absurd (omega arith)

in_role : (role : Role) (w : Who) → may_be role (who_tag w) ≡ true → IsActor w → IsIn role w
in_role roles.Node (whos.Node n) h i = i
in_role roles.Node (whos.Sequencer e) h i = absurd cc
in_role roles.Node (whos.Reader r) h i = absurd cc
in_role roles.Sequencer (whos.Node n) h i = absurd cc
in_role roles.Sequencer (whos.Sequencer e) h i = i
in_role roles.Sequencer (whos.Reader r) h i = absurd cc
in_role roles.Reader (whos.Node n) h i = absurd cc
in_role roles.Reader (whos.Sequencer e) h i = absurd cc
in_role roles.Reader (whos.Reader r) h i = (i, tt)
in_role roles.Asker (whos.Node n) h i = i
in_role roles.Asker (whos.Sequencer e) h i = absurd cc
in_role roles.Asker (whos.Reader r) h i = i
in_role roles.Anyone (whos.Node n) h i = i
in_role roles.Anyone (whos.Sequencer e) h i = i
in_role roles.Anyone (whos.Reader r) h i = i

pub who_spelled : (bs : List ℕ) (role : Role) (at : ℕ) (w : Who) (next : ℕ) → AreBytes bs → read_who role bs at ≡ Got w next → WhoRead bs role at next w
unfolding read_who
who_spelled bs role at w next h r =
    by_follow (field 1 bs at) _ w next r (λ tag a f r. by_check _ at _ w next r (λ ok r.
    by_follow (field 4 bs a) _ w next r (λ n b g r. by_check _ a _ w next r (λ ok2 r. by_got (actor tag n) w b next r (λ is k.
    let s = field_spells 1 bs at tag a h f in let t = field_spells 4 bs a n b h g in let m = role_tag role tag ok in let e = actor_tag tag n m in
    subst (WhoRead bs role at next) is (subst (λ x. WhoRead bs role at x (actor tag n)) k (record {
      spelled = subst (Spelled bs at b) (who_made tag n (actor tag n) e (actor_number tag n m)) (spelled_on bs at a b (big_bytes 1 tag) (big_bytes 4 n) s.spelled t.spelled);
      is = in_role role (actor tag n) (subst (λ x. may_be role x ≡ true) e ok) (actor_is tag n m ok2);
    })))))))

-- ---- the fields of each kind ----

-- what was read as the fields of a message of the kind: its bytes, and that it fits between actors of the kind
pub record BodyRead (bs : List ℕ) (kind : ℕ) (from to : Who) (at next : ℕ) (b : Body) : Type 0 where
  pub spelled : Spelled bs at next (body_bytes b)
  pub kind_is : kind_of b ≡ kind
  pub fits : IsIn (sender kind) from → IsIn (receiver kind) to → Fits from to b

module _ (bs : List ℕ) (kind : ℕ) (from to : Who) (at : ℕ) where
  -- what was read, at the value and the offset that it is said to be
  made : (b w : Body) (last next : ℕ) → b ≡ w → last ≡ next → BodyRead bs kind from to at last b → BodyRead bs kind from to at next w
  made b w last next e n h = subst (BodyRead bs kind from to at next) e (subst (λ x. BodyRead bs kind from to at x b) n h)

-- the checks of a stored tag
pub record TagRead (ballot n tag : ℕ) : Type 0 where
  pub is : is_tag n tag ≡ true
  pub stands : may_stand besides.Bridges tag ≡ true
  pub own : epoch_of n ≡ ballot → tag ≡ 0

own_tag : (ballot n tag : ℕ) → (not (epoch_of n == ballot) || (tag == 0)) ≡ true → epoch_of n ≡ ballot → tag ≡ 0
own_tag ballot n tag h e = grind (arith, nat_tests)

tag_read : (ballot n tag : ℕ) → may_store ballot n tag ≡ true → TagRead ballot n tag
tag_read ballot n tag h = let b = both_true (is_tag n tag && may_stand besides.Bridges tag) _ h in let c = both_true (is_tag n tag) (may_stand besides.Bridges tag) b.0 in record { is = c.0; stands = c.1; own = own_tag ballot n tag b.1 }

record_of : (w : What) → tag_of w ≡ 0 → IsRecord w
record_of (Rec p) e = tt
record_of Hole e = absurd (omega arith)
record_of Bridge e = absurd (omega arith)
record_of Plug e = absurd (omega arith)
record_of Withheld e = absurd (omega arith)

store_is : (n ballot : ℕ) → (is_number n && nat_le (epoch_of n) ballot) ≡ true → IsEpoch (epoch_of n) × (1 ≤ esn_of n) × (epoch_of n ≤ ballot)
store_is n ballot h = ((grind (arith, nat_tests), grind (arith, nat_tests)), grind (arith, nat_tests), grind (arith, nat_tests))

store_spelled : (bs : List ℕ) (from to : Who) (at : ℕ) (b : Body) (next : ℕ) → AreBytes bs → read_store (ballot_of from) bs at ≡ Got b next → BodyRead bs 1 from to at next b
unfolding read_store kind_of body_bytes sender receiver
store_spelled bs from to at b next h r =
    by_follow (field 8 bs at) _ b next r (λ n a f r. by_check _ at _ b next r (λ ok r.
    by_follow (field 4 bs a) _ b next r (λ lng c g r. by_check (nat_le lng greatest_lng) a _ b next r (λ ok1 r.
    by_follow (field 1 bs c) _ b next r (λ tag d k r. by_check _ c _ b next r (λ ok2 r.
    by_follow (tagged bs d tag) _ b next r (λ w last q r. by_got _ b last next r (λ is e.
    let s = field_spells 8 bs at n a h f in let t = field_spells 4 bs a lng c h g in let u = field_spells 1 bs c tag d h k in
    let o = tag_read (ballot_of from) n tag ok2 in let i = store_is n (ballot_of from) ok in
    let v = tagged_spelled bs d tag w last h u.spelled.within (tag_most n tag o.is) q in
    let y = t.fits in
    made bs 1 from to at (bodies.Store n lng w) b last next is e (record {
      spelled = spelled_on bs at a last (big_bytes 8 n) _ s.spelled (spelled_on bs a c last (big_bytes 4 lng) _ t.spelled
          (subst (Spelled bs c last) (what_made tag w v.tag_is) (spelled_on bs c d last (big_bytes 1 tag) (after_tag w) u.spelled v.spelled)));
      kind_is = refl;
      fits = λ x z. let m = sequencer_most from x in ((x, z), lng_is lng ok1, record { epoch = i.0; from_one = i.1; place = place_of n tag w o.is v.tag_is; ballot = i.2; ballot_most = m.1; short = v.short }, stands_kept w (subst (λ k. may_stand besides.Bridges k ≡ true) v.tag_is o.stands), λ k. record_of w (sym v.tag_is ∙ o.own k));
    })))))))))

number_spelled : (bs : List ℕ) (kind : ℕ) (from to : Who) (at : ℕ) (b : Body) (next : ℕ) (f : ℕ → Body) → AreBytes bs → ((n : ℕ) → body_bytes (f n) ≡ big_bytes 8 n) → ((n : ℕ) → kind_of (f n) ≡ kind) → ((n : ℕ) → Is64 n → IsIn (sender kind) from → IsIn (receiver kind) to → Fits from to (f n))
    → follow (field 8 bs at) (λ n next. Got (f n) next) ≡ Got b next → BodyRead bs kind from to at next b
number_spelled bs kind from to at b next f h e k g r = by_follow (field 8 bs at) _ b next r (λ n a q r. by_got (f n) b a next r (λ is m.
    let s = field_spells 8 bs at n a h q in let z = s.fits in
    made bs kind from to at (f n) b a next is m (record { spelled = subst (Spelled bs at a) (sym (e n)) s.spelled; kind_is = k n; fits = g n (omega arith) })))

stored_spelled : (bs : List ℕ) (from to : Who) (at : ℕ) (b : Body) (next : ℕ) → AreBytes bs → follow (field 8 bs at) (λ n next. Got (bodies.Stored n) next) ≡ Got b next → BodyRead bs 2 from to at next b
unfolding kind_of body_bytes sender receiver
stored_spelled bs from to at b next h r = number_spelled bs 2 from to at b next (λ n. bodies.Stored n) h (λ n. refl) (λ n. refl) (λ n i x z. ((x, z), i)) r

release_spelled : (bs : List ℕ) (from to : Who) (at : ℕ) (b : Body) (next : ℕ) → AreBytes bs → follow (field 8 bs at) (λ n next. Got (bodies.Release n) next) ≡ Got b next → BodyRead bs 10 from to at next b
unfolding kind_of body_bytes sender receiver
release_spelled bs from to at b next h r = number_spelled bs 10 from to at b next (λ n. bodies.Release n) h (λ n. refl) (λ n. refl) (λ n i x z. ((x, z), i)) r

trim_spelled : (bs : List ℕ) (from to : Who) (at : ℕ) (b : Body) (next : ℕ) → AreBytes bs → follow (field 8 bs at) (λ n next. Got (bodies.Trim n) next) ≡ Got b next → BodyRead bs 11 from to at next b
unfolding kind_of body_bytes sender receiver
trim_spelled bs from to at b next h r = number_spelled bs 11 from to at b next (λ n. bodies.Trim n) h (λ n. refl) (λ n. refl) (λ n i x z. ((x, z), i)) r

sealed_spelled : (bs : List ℕ) (from to : Who) (at : ℕ) (b : Body) (next : ℕ) → AreBytes bs → read_sealed bs at ≡ Got b next → BodyRead bs 3 from to at next b
unfolding read_sealed kind_of body_bytes sender receiver
sealed_spelled bs from to at b next h r =
    by_follow (field 8 bs at) _ b next r (λ n a f r. by_follow (field 4 bs a) _ b next r (λ k c g r. by_got _ b c next r (λ is e.
    let s = field_spells 8 bs at n a h f in let t = field_spells 4 bs a k c h g in let y = s.fits in let w = t.fits in
    made bs 3 from to at (bodies.SealedHere n k) b c next is e (record { spelled = spelled_on bs at a c (big_bytes 8 n) _ s.spelled t.spelled; kind_is = refl; fits = λ x z. ((x, z), omega arith, omega arith) }))))

answers_of : (to : Who) (round : ℕ) → answers_in to round ≡ true → AnswersIn to round
answers_of (whos.Node n) round h = tt
answers_of (whos.Sequencer e) round h = same_is round 0 h
answers_of (whos.Reader r) round h = tt

asks_of : (from : Who) (round : ℕ) → asks_in from round ≡ true → AsksIn from round
asks_of (whos.Node n) round h = same_is round 0 h
asks_of (whos.Sequencer e) round h = tt
asks_of (whos.Reader r) round h = tt

lost_spelled : (bs : List ℕ) (from to : Who) (at : ℕ) (b : Body) (next : ℕ) → AreBytes bs → read_lost to bs at ≡ Got b next → BodyRead bs 4 from to at next b
unfolding read_lost kind_of body_bytes sender receiver
lost_spelled bs from to at b next h r =
    by_follow (field 8 bs at) _ b next r (λ n a f r. by_check _ at _ b next r (λ ok r.
    by_follow (field 4 bs a) _ b next r (λ round c g r. by_check _ a _ b next r (λ ok2 r.
    by_follow (field 4 bs c) _ b next r (λ gen d k r.
    by_follow (field 8 bs d) _ b next r (λ end l q r. by_got _ b l next r (λ is e.
    let s = field_spells 8 bs at n a h f in let t = field_spells 4 bs a round c h g in let u = field_spells 4 bs c gen d h k in let v = field_spells 8 bs d end l h q in
    let o1 = s.fits in let o2 = t.fits in let o3 = u.fits in let o4 = v.fits in
    made bs 4 from to at (bodies.LostHere n round gen end) b l next is e (record {
      spelled = spelled_on bs at a l (big_bytes 8 n) _ s.spelled (spelled_on bs a c l (big_bytes 4 round) _ t.spelled (spelled_on bs c d l (big_bytes 4 gen) _ u.spelled v.spelled));
      kind_is = refl;
      fits = λ x z. (x, z, le_is 1 n ok, omega arith, omega arith, answers_of to round ok2, omega arith, omega arith);
    }))))))))

clean_here_spelled : (bs : List ℕ) (from to : Who) (at : ℕ) (b : Body) (next : ℕ) → AreBytes bs → read_clean_here bs at ≡ Got b next → BodyRead bs 17 from to at next b
unfolding read_clean_here kind_of body_bytes sender receiver
clean_here_spelled bs from to at b next h r =
    by_follow (field 8 bs at) _ b next r (λ n a f r. by_follow (read_summary bs (epoch_of n) a) _ b next r (λ y c g r. by_got _ b c next r (λ is e.
    let s = field_spells 8 bs at n a h f in let t = summary_spelled bs (epoch_of n) a y c h g in let w = s.fits in
    made bs 17 from to at (bodies.CleanHere n y) b c next is e (record { spelled = spelled_on bs at a c (big_bytes 8 n) _ s.spelled t.spelled; kind_is = refl; fits = λ x z. ((x, z), omega arith, t.is) }))))

trimmed_spelled : (bs : List ℕ) (from to : Who) (at : ℕ) (b : Body) (next : ℕ) → AreBytes bs → read_trimmed bs at ≡ Got b next → BodyRead bs 6 from to at next b
unfolding read_trimmed kind_of body_bytes sender receiver
trimmed_spelled bs from to at b next h r =
    by_follow (field 8 bs at) _ b next r (λ n a f r. by_follow (field 8 bs a) _ b next r (λ k c g r. by_got _ b c next r (λ is e.
    let s = field_spells 8 bs at n a h f in let t = field_spells 8 bs a k c h g in let y = s.fits in let w = t.fits in
    made bs 6 from to at (bodies.TrimmedHere n k) b c next is e (record { spelled = spelled_on bs at a c (big_bytes 8 n) _ s.spelled t.spelled; kind_is = refl; fits = λ x z. ((x, z), omega arith, omega arith) }))))

asked_is : (n ballot : ℕ) → (nat_le 1 (epoch_of n) && nat_lt (epoch_of n) ballot && nat_le 1 (esn_of n)) ≡ true → (1 ≤ epoch_of n) × (epoch_of n < ballot) × (1 ≤ esn_of n)
asked_is n ballot h = (grind (arith, nat_tests), grind (arith, nat_tests), grind (arith, nat_tests))

digest_ask_spelled : (bs : List ℕ) (from to : Who) (at : ℕ) (b : Body) (next : ℕ) → AreBytes bs → read_digest_ask (ballot_of from) bs at ≡ Got b next → BodyRead bs 7 from to at next b
unfolding read_digest_ask kind_of body_bytes sender receiver
digest_ask_spelled bs from to at b next h r =
    by_follow (field 8 bs at) _ b next r (λ n a f r. by_check _ at _ b next r (λ ok r. by_got _ b a next r (λ is e.
    let s = field_spells 8 bs at n a h f in let i = asked_is n (ballot_of from) ok in
    made bs 7 from to at (bodies.DigestAsk n) b a next is e (record { spelled = s.spelled; kind_is = refl; fits = λ x z. ((x, z), i.0, i.1, i.2) }))))

digest_page_spelled : (bs : List ℕ) (from to : Who) (at : ℕ) (b : Body) (next : ℕ) → AreBytes bs → read_digest_page bs at ≡ Got b next → BodyRead bs 8 from to at next b
unfolding read_digest_page kind_of body_bytes sender receiver
digest_page_spelled bs from to at b next h r =
    by_follow (field 8 bs at) _ b next r (λ n a f r.
    by_follow (read_upto bs n a) _ b next r (λ upto c g r.
    by_follow (field 8 bs c) _ b next r (λ trim d k r.
    by_follow (field 4 bs d) _ b next r (λ lng l q r. by_check (nat_le lng greatest_lng) d _ b next r (λ ok1 r.
    by_follow (read_page bs besides.Bridges n upto l) _ b next r (λ es last p r. by_got _ b last next r (λ is e.
    let s = field_spells 8 bs at n a h f in let t = upto_spelled bs n a upto c h g in let u = field_spells 8 bs c trim d h k in let v = field_spells 4 bs d lng l h q in let w = page_spelled bs besides.Bridges n upto l es last h p in
    let o3 = u.fits in let o4 = v.fits in
    made bs 8 from to at (bodies.DigestPage n upto trim lng es) b last next is e (record {
      spelled = spelled_on bs at a last (big_bytes 8 n) _ s.spelled (spelled_on bs a c last (big_bytes 8 upto) _ t.spelled (spelled_on bs c d last (big_bytes 8 trim) _ u.spelled (spelled_on bs d l last (big_bytes 4 lng) _ v.spelled w.spelled)));
      kind_is = refl;
      fits = λ x z. ((x, z), page_is bs besides.Bridges n upto a c l last es t w, all_kept es w.stand, omega arith, lng_is lng ok1);
    }))))))))

clean_spelled : (bs : List ℕ) (from to : Who) (at : ℕ) (b : Body) (next : ℕ) → AreBytes bs → read_clean bs at ≡ Got b next → BodyRead bs 18 from to at next b
unfolding read_clean kind_of body_bytes sender receiver
clean_spelled bs from to at b next h r =
    by_follow (field 4 bs at) _ b next r (λ k a f r. by_check _ at _ b next r (λ ok r. by_follow (read_summary bs k a) _ b next r (λ y c g r. by_got _ b c next r (λ is e.
    let s = field_spells 4 bs at k a h f in let t = summary_spelled bs k a y c h g in
    made bs 18 from to at (bodies.Clean k y) b c next is e (record { spelled = spelled_on bs at a c (big_bytes 4 k) _ s.spelled t.spelled; kind_is = refl; fits = λ x z. ((x, z), within_is 1 greatest_epoch k ok, t.is) })))))

read_ask_spelled : (bs : List ℕ) (from to : Who) (at : ℕ) (b : Body) (next : ℕ) → AreBytes bs → read_read_ask from bs at ≡ Got b next → BodyRead bs 12 from to at next b
unfolding read_read_ask kind_of body_bytes sender receiver
read_ask_spelled bs from to at b next h r =
    by_follow (field 4 bs at) _ b next r (λ round a f r. by_check _ at _ b next r (λ ok r. by_follow (field 8 bs a) _ b next r (λ n c g r. by_check _ a _ b next r (λ ok2 r. by_got _ b c next r (λ is e.
    let s = field_spells 4 bs at round a h f in let t = field_spells 8 bs a n c h g in let o1 = s.fits in let o2 = t.fits in
    made bs 12 from to at (bodies.ReadAsk round n) b c next is e (record { spelled = spelled_on bs at a c (big_bytes 4 round) _ s.spelled t.spelled; kind_is = refl; fits = λ x z. (x, z, omega arith, asks_of from round ok, le_is 1 n ok2, omega arith) }))))))

pub record AskedRead (bs : List ℕ) (at next round n : ℕ) : Type 0 where
  pub spelled : Spelled bs at next (big_bytes 4 round ++ big_bytes 8 n)
  pub round_fits : Is32 round
  pub number : 1 ≤ n
  pub fits : Is64 n

asked_spelled : (bs : List ℕ) (at : ℕ) (p : ℕ × ℕ) (next : ℕ) → AreBytes bs → read_asked bs at ≡ Got p next → AskedRead bs at next p.0 p.1
unfolding read_asked
asked_spelled bs at p next h r =
    by_follow (field 4 bs at) _ p next r (λ round a f r. by_follow (field 8 bs a) _ p next r (λ n c g r. by_check _ a _ p next r (λ ok r. by_got (round, n) p c next r (λ is e.
    let s = field_spells 4 bs at round a h f in let t = field_spells 8 bs a n c h g in let o1 = s.fits in let o2 = t.fits in
    subst (λ (q : ℕ × ℕ). AskedRead bs at next q.0 q.1) is (subst (λ x. AskedRead bs at x round n) e (record { spelled = spelled_on bs at a c (big_bytes 4 round) _ s.spelled t.spelled; round_fits = omega arith; number = le_is 1 n ok; fits = omega arith }))))))

-- behind the round and the number that were asked for
onto_asked : (bs : List ℕ) (at a last round n : ℕ) (xs : List ℕ) → AskedRead bs at a round n → Spelled bs a last xs → Spelled bs at last (big_bytes 4 round ++ (big_bytes 8 n ++ xs))
onto_asked bs at a last round n xs s t = subst (Spelled bs at last) (append_assoc (big_bytes 4 round) (big_bytes 8 n) xs) (spelled_on bs at a last (big_bytes 4 round ++ big_bytes 8 n) xs s.spelled t)

read_page_spelled : (bs : List ℕ) (from to : Who) (at : ℕ) (b : Body) (next : ℕ) → AreBytes bs → read_read_page to bs at ≡ Got b next → BodyRead bs 13 from to at next b
unfolding read_read_page kind_of body_bytes sender receiver
read_page_spelled bs from to at b next h r =
    by_follow (read_asked bs at) _ b next r (λ p a f r.
    by_follow (read_upto bs p.1 a) _ b next r (λ upto c g r.
    by_follow (read_flag bs c) _ b next r (λ clean d k r.
    by_follow (read_page bs (page_beside to) p.1 upto d) _ b next r (λ es last q r. by_got _ b last next r (λ is e.
    let s = asked_spelled bs at p a h f in let t = upto_spelled bs p.1 a upto c h g in let u = flag_spelled bs c clean d h k in let w = page_spelled bs (page_beside to) p.1 upto d es last h q in
    made bs 13 from to at (bodies.ReadPage p.0 p.1 upto clean es) b last next is e (record {
      spelled = onto_asked bs at a last p.0 p.1 _ s (spelled_on bs a c last (big_bytes 8 upto) _ t.spelled (spelled_on bs c d last (big_bytes 1 (flag clean)) _ u w.spelled));
      kind_is = refl;
      fits = λ x z. ((x, z, s.round_fits, s.number, s.fits), page_is bs (page_beside to) p.1 upto a c d last es t w, are_readable to es w.stand);
    }))))))

answer_spelled : (bs : List ℕ) (kind : ℕ) (from to : Who) (at : ℕ) (b : Body) (next : ℕ) → AreBytes bs
    → ((round n x : ℕ) → body_bytes (answer kind round n x) ≡ big_bytes 4 round ++ (big_bytes 8 n ++ big_bytes 8 x)) → ((round n x : ℕ) → kind_of (answer kind round n x) ≡ kind)
    → ((round n x : ℕ) → Is32 round → 1 ≤ n → Is64 n → Is64 x → IsIn (sender kind) from → IsIn (receiver kind) to → Fits from to (answer kind round n x))
    → read_answer kind bs at ≡ Got b next → BodyRead bs kind from to at next b
unfolding read_answer
answer_spelled bs kind from to at b next h e k g r =
    by_follow (read_asked bs at) _ b next r (λ p a f r. by_follow (field 8 bs a) _ b next r (λ x c q r. by_got _ b c next r (λ is m.
    let s = asked_spelled bs at p a h f in let t = field_spells 8 bs a x c h q in let o = t.fits in
    made bs kind from to at (answer kind p.0 p.1 x) b c next is m (record {
      spelled = subst (Spelled bs at c) (sym (e p.0 p.1 x)) (onto_asked bs at a c p.0 p.1 _ s t.spelled);
      kind_is = k p.0 p.1 x;
      fits = g p.0 p.1 x s.round_fits s.number s.fits (omega arith);
    }))))

bits_spelled : (bs : List ℕ) (at x next : ℕ) → Spells bs 2 at x next → Spelled bs at next (big_bytes 2 (set_bits (bits_set x)))
bits_spelled bs at x next s = let f = s.fits in subst (λ v. Spelled bs at next (big_bytes 2 v)) (sym (number_again x (omega arith))) s.spelled

are_set : (x : ℕ) → IsSet (bits_set x)
unfolding bits_flags
are_set x = refl

neither : (a b : Bool) → (not a || b) ≡ false → (a ≡ true) × (b ≡ false)
neither true b e = (refl, e)
neither false b e = absurd cc

-- where no one is beside the others, each of these is among them
among : (ns ms : List ℕ) → any_of (λ n. not (is_in n ns)) ms ≡ false → (n : ℕ) → is_in n ms ≡ true → is_in n ns ≡ true
among ns [] e n h = absurd cc
among ns (m ∷ ms) e n h = let b = neither (is_in m ns) (any_of (λ k. not (is_in k ns)) ms) e in elim (or_cases (m == n) (is_in n ms) h) [
  | inl here ↦ subst (λ k. is_in k ns ≡ true) (same_is m n here) b.0
  | inr later ↦ among ns ms b.1 n later
]

not_true : (b : Bool) → not b ≡ true → b ≡ false
not_true true e = absurd cc
not_true false e = refl

read_one_spelled : (bs : List ℕ) (from to : Who) (at : ℕ) (b : Body) (next : ℕ) → AreBytes bs → read_read_one bs at ≡ Got b next → BodyRead bs 20 from to at next b
unfolding read_read_one kind_of body_bytes sender receiver
read_one_spelled bs from to at b next h r =
    by_follow (read_asked bs at) _ b next r (λ p a f r. by_follow (field 2 bs a) _ b next r (λ x c g r. by_follow (field 2 bs c) _ b next r (λ y d k r. by_check _ c _ b next r (λ ok r. by_got _ b d next r (λ is e.
    let s = asked_spelled bs at p a h f in let t = field_spells 2 bs a x c h g in let u = field_spells 2 bs c y d h k in
    let o = both_true (share_out (bits_set y) (bits_set x)) (not (share_out (bits_set x) (bits_set y))) ok in
    made bs 20 from to at (bodies.ReadOne p.0 p.1 (bits_set x) (bits_set y)) b d next is e (record {
      spelled = onto_asked bs at a d p.0 p.1 _ s (spelled_on bs a c d (big_bytes 2 (set_bits (bits_set x))) _ (bits_spelled bs a x c t) (bits_spelled bs c y d u));
      kind_is = refl;
      fits = λ v w. (v.0, v.1, w, s.round_fits, s.number, s.fits, among (members (bits_set x)) (members (bits_set y)) (not_true _ o.1), o.0, are_set x, are_set y);
    }))))))

ended_spelled : (bs : List ℕ) (from to : Who) (at : ℕ) (b : Body) (next : ℕ) → AreBytes bs → read_ended bs at ≡ Got b next → BodyRead bs 19 from to at next b
unfolding read_ended kind_of body_bytes sender receiver
ended_spelled bs from to at b next h r =
    by_follow (read_asked bs at) _ b next r (λ p a f r. by_follow (field 8 bs a) _ b next r (λ end c g r. by_follow (read_flag bs c) _ b next r (λ loss d k r. by_got _ b d next r (λ is e.
    let s = asked_spelled bs at p a h f in let t = field_spells 8 bs a end c h g in let u = flag_spelled bs c loss d h k in let o = t.fits in
    made bs 19 from to at (bodies.ReadEnded p.0 p.1 end loss) b d next is e (record {
      spelled = onto_asked bs at a d p.0 p.1 _ s (spelled_on bs a c d (big_bytes 8 end) _ t.spelled u);
      kind_is = refl;
      fits = λ x z. ((x, z, s.round_fits, s.number, s.fits), omega arith);
    })))))

read_trim_spelled : (bs : List ℕ) (from to : Who) (at : ℕ) (b : Body) (next : ℕ) → AreBytes bs → read_answer 15 bs at ≡ Got b next → BodyRead bs 15 from to at next b
unfolding kind_of body_bytes sender receiver
read_trim_spelled bs from to at b next h r = answer_spelled bs 15 from to at b next h (λ round n x. refl) (λ round n x. refl) (λ round n x i j k l y z. ((y, z, i, j, k), l)) r

wait_spelled : (bs : List ℕ) (from to : Who) (at : ℕ) (b : Body) (next : ℕ) → AreBytes bs → read_answer 16 bs at ≡ Got b next → BodyRead bs 16 from to at next b
unfolding kind_of body_bytes sender receiver
wait_spelled bs from to at b next h r = answer_spelled bs 16 from to at b next h (λ round n x. refl) (λ round n x. refl) (λ round n x i j k l y z. ((y, z, i, j, k), l)) r

module _ {X P : Type 0} where
  by_cond : (t : Bool) (r s w : X) → cond t r s ≡ w → (t ≡ true → r ≡ w → P) → (t ≡ false → s ≡ w → P) → P
  by_cond true r s w e f g = f refl e
  by_cond false r s w e f g = g refl e

of_kind_is : (bs : List ℕ) (k kind : ℕ) (from to : Who) (at next : ℕ) (b : Body) → (kind == k) ≡ true → BodyRead bs k from to at next b → BodyRead bs kind from to at next b
of_kind_is bs k kind from to at next b e h = subst (λ x. BodyRead bs x from to at next b) (sym (same_is kind k e)) h

stored_body : (bs : List ℕ) (kind : ℕ) (from to : Who) (at : ℕ) (b : Body) (next : ℕ) → AreBytes bs → is_kind kind ≡ true → kind ≤ 6 → read_stored kind from to bs at ≡ Got b next → BodyRead bs kind from to at next b
unfolding read_stored
stored_body bs kind from to at b next h l m r =
    by_cond (kind == 1) _ _ _ r (λ e r. of_kind_is bs 1 kind from to at next b e (store_spelled bs from to at b next h r)) (λ e1 r.
    by_cond (kind == 2) _ _ _ r (λ e r. of_kind_is bs 2 kind from to at next b e (stored_spelled bs from to at b next h r)) (λ e2 r.
    by_cond (kind == 3) _ _ _ r (λ e r. of_kind_is bs 3 kind from to at next b e (sealed_spelled bs from to at b next h r)) (λ e3 r.
    by_cond (kind == 4) _ _ _ r (λ e r. of_kind_is bs 4 kind from to at next b e (lost_spelled bs from to at b next h r)) (λ e4 r.
    of_kind_is bs 6 kind from to at next b (grind (arith, nat_tests)) (trimmed_spelled bs from to at b next h r)))))

told_body : (bs : List ℕ) (kind : ℕ) (from to : Who) (at : ℕ) (b : Body) (next : ℕ) → AreBytes bs → is_kind kind ≡ true → 7 ≤ kind → kind ≤ 11 → read_told kind from bs at ≡ Got b next → BodyRead bs kind from to at next b
unfolding read_told
told_body bs kind from to at b next h i l m r =
    by_cond (kind == 7) _ _ _ r (λ e r. of_kind_is bs 7 kind from to at next b e (digest_ask_spelled bs from to at b next h r)) (λ e1 r.
    by_cond (kind == 8) _ _ _ r (λ e r. of_kind_is bs 8 kind from to at next b e (digest_page_spelled bs from to at b next h r)) (λ e2 r.
    by_cond (kind == 10) _ _ _ r (λ e r. of_kind_is bs 10 kind from to at next b e (release_spelled bs from to at b next h r)) (λ e3 r.
    of_kind_is bs 11 kind from to at next b (grind (arith, nat_tests)) (trim_spelled bs from to at b next h r))))

answer_at : (bs : List ℕ) (k kind at : ℕ) (b : Body) (next : ℕ) → (kind == k) ≡ true → read_answer kind bs at ≡ Got b next → read_answer k bs at ≡ Got b next
answer_at bs k kind at b next e r = subst (λ x. read_answer x bs at ≡ Got b next) (same_is kind k e) r

answer_body : (bs : List ℕ) (kind : ℕ) (from to : Who) (at : ℕ) (b : Body) (next : ℕ) (e : Bool) → (kind == 15) ≡ e → AreBytes bs → 15 ≤ kind → kind ≤ 16 → read_answer kind bs at ≡ Got b next → BodyRead bs kind from to at next b
answer_body bs kind from to at b next true e h l m r = of_kind_is bs 15 kind from to at next b e (read_trim_spelled bs from to at b next h (answer_at bs 15 kind at b next e r))
answer_body bs kind from to at b next false e h l m r = let k : (kind == 16) ≡ true = grind (arith, nat_tests) in of_kind_is bs 16 kind from to at next b k (wait_spelled bs from to at b next h (answer_at bs 16 kind at b next k r))

late_body : (bs : List ℕ) (kind : ℕ) (from to : Who) (at : ℕ) (b : Body) (next : ℕ) → AreBytes bs → is_kind kind ≡ true → 14 ≤ kind → read_late kind bs at ≡ Got b next → BodyRead bs kind from to at next b
unfolding read_late
late_body bs kind from to at b next h i l r =
    by_cond (kind == 17) _ _ _ r (λ e r. of_kind_is bs 17 kind from to at next b e (clean_here_spelled bs from to at b next h r)) (λ e1 r.
    by_cond (kind == 18) _ _ _ r (λ e r. of_kind_is bs 18 kind from to at next b e (clean_spelled bs from to at b next h r)) (λ e2 r.
    by_cond (kind == 19) _ _ _ r (λ e r. of_kind_is bs 19 kind from to at next b e (ended_spelled bs from to at b next h r)) (λ e3 r.
    by_cond (kind == 20) _ _ _ r (λ e r. of_kind_is bs 20 kind from to at next b e (read_one_spelled bs from to at b next h r)) (λ e4 r.
    answer_body bs kind from to at b next (kind == 15) refl h (grind (arith, nat_tests)) (grind (arith, nat_tests)) r))))

body_spelled : (bs : List ℕ) (kind : ℕ) (from to : Who) (at : ℕ) (b : Body) (next : ℕ) → AreBytes bs → is_kind kind ≡ true → read_body kind from to bs at ≡ Got b next → BodyRead bs kind from to at next b
unfolding read_body
body_spelled bs kind from to at b next h i r =
    by_cond (nat_le kind 6) _ _ _ r (λ e r. stored_body bs kind from to at b next h i (le_is kind 6 e) r) (λ e1 r.
    by_cond (nat_le kind 11) _ _ _ r (λ e r. told_body bs kind from to at b next h i (grind (arith, nat_tests)) (le_is kind 11 e) r) (λ e2 r.
    by_cond (kind == 12) _ _ _ r (λ e r. of_kind_is bs 12 kind from to at next b e (read_ask_spelled bs from to at b next h r)) (λ e3 r.
    by_cond (kind == 13) _ _ _ r (λ e r. of_kind_is bs 13 kind from to at next b e (read_page_spelled bs from to at b next h r)) (λ e4 r.
    late_body bs kind from to at b next h i (grind (arith, nat_tests)) r))))

-- ---- messages ----

-- what stands behind the kind
abbrev pub behind_kind : Msg → List ℕ
behind_kind m = who_bytes m.from ++ (who_bytes m.to ++ (big_bytes 4 m.log ++ body_bytes m.body))

pub record MsgRead (bs : List ℕ) (kind : ℕ) (m : Msg) : Type 0 where
  pub there : drop 1 bs ≡ behind_kind m
  pub kind_is : kind_of m.body ≡ kind
  pub is : IsMessage m

pub msg_spelled : (bs : List ℕ) (kind : ℕ) (m : Msg) (next : ℕ) → AreBytes bs → is_kind kind ≡ true → read_msg kind bs ≡ Got m next → MsgRead bs kind m
unfolding read_msg
msg_spelled bs kind m next h i r =
    by_follow (read_who (sender kind) bs 1) _ m next r (λ from a f r. by_follow (read_who (receiver kind) bs a) _ m next r (λ to b g r.
    by_follow (read_log bs b) _ m next r (λ log c p r. by_follow (read_body kind from to bs c) _ m next r (λ body last q r.
    let e = ended bs last (record { from = from; to = to; log = log; body = body }) m next r in
    let s = who_spelled bs (sender kind) 1 from a h f in let t = who_spelled bs (receiver kind) a to b h g in let u = log_spelled bs b log c h p in let v = body_spelled bs kind from to c body last h i q in
    subst (MsgRead bs kind) e.1 (record {
      there = (spelled_on bs 1 a last (who_bytes from) _ s.spelled (spelled_on bs a b last (who_bytes to) _ t.spelled (spelled_on bs b c last (big_bytes 4 log) (body_bytes body) u.spelled v.spelled))).there
          ∙ (ap (λ x. (who_bytes from ++ (who_bytes to ++ (big_bytes 4 log ++ body_bytes body))) ++ x) (gone bs last e.0) ∙ append-nil (who_bytes from ++ (who_bytes to ++ (big_bytes 4 log ++ body_bytes body))));
      kind_is = v.kind_is;
      is = record { log = u.is; fits = v.fits s.is t.is };
    })))))
