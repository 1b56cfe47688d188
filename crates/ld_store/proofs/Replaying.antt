-- One record more of a segment that was replayed.
use Rattle.std.proofs.Common.{◌≡◌, inl, inr, ◌<◌, ◌+◌, ◌==◌, take, drop, ℕ, List, [], ◌∷◌, ◌++◌, length, false, cond, if◌then◌else◌, Option, Some, sym, ◌∙◌, ap, refl, arith, take-append-drop}
use Rattle.std.proofs.lemmas.List.{drop-drop, length-take, length-drop}
use Rattle.std.proofs.lemmas.Bool.Decides.{nat_tests}
use Rattle.std.proofs.Math.Seq.{drop-append_seam}
use Rattle.ld_journal.specs.Format.{framed, records, IsCutShort}
use Rattle.ld_journal.specs.Rest.{IsParted, BeginsWith}
use Rattle.ld_journal.proofs.Records.{records-push}
use Rattle.ld_msg.specs.Register.{record_length}
use Rattle.ld_op.specs.declared.record.Record.{Record}
use Rattle.ld_op.specs.declared.record.Record.TheVariants.{Now, Before, Mark}
use Rattle.ld_op.specs.declared.version.Version.{Version}
use Rattle.ld_op.specs.Plain.{Plain}
use Rattle.ld_op.specs.Records.{applied, body_length}
use Rattle.ld_op.specs.Bytes.{record_bytes}
use Rattle.ld_segment.specs.Ops.{bodies_of, place_behind, op_count, placed_record}
use Rattle.ld_segment.specs.Lies.{first_length}
use Rattle.ld_segment.proofs.Bodies.{record_long, bodies-push, placed-push, place-push, count-push, counts_as, indexed-push, places}
use Rattle.ld_store.specs.Ops.{IsBodyOf, IsBodyOrHead, IsHead, IsDamagedRow}
use Rattle.ld_store.specs.Replayed.{HasReplayed, IsWithRecord}
use Rattle.ld_store.specs.declared.replay.Walk.{Walk}

-- what stands behind a part
pub behind : (at n : ℕ) (xs rest bytes : List ℕ) → length xs ≡ n → drop at bytes ≡ xs ++ rest → drop (at + n) bytes ≡ rest
behind at n xs rest bytes long is = sym (drop-drop n at bytes) ∙ (ap (drop n) is ∙ (ap (λ k. drop k (xs ++ rest)) (sym long) ∙ drop-append_seam xs rest))

one_counts : (v : Record) → op_count (v ∷ []) ≡ counts_as v
one_counts (Now o) = refl
one_counts (Before o) = refl
one_counts Mark = refl

first-push : (vs : List Record) (v : Record) (first size : ℕ) → first ≡ first_length vs → size ≡ body_length v → (if first == 0 then record_length size else first) ≡ first_length (vs ++ v ∷ [])
first-push [] v first size is long = ap (λ k. if k == 0 then record_length size else k) is ∙ ap record_length long
first-push (u ∷ vs) v first size is long =
    let some : first ≡ 5 + body_length u = is in
    let test : (first == 0) ≡ false = grind (arith, nat_tests) in
    ap (λ b. cond b (record_length size) first) test ∙ is

module _ (from : ℕ) (opening : Version) (base : Plain) (bytes : List ℕ) (w : Walk) (index : Plain) (has : HasReplayed from opening base bytes w index) where
  pub rest_at : drop w.at bytes ≡ has.rest
  rest_at = ap (λ k. drop k bytes) has.at_is ∙ behind from (place_behind has.found) (records (bodies_of has.found)) has.rest bytes (places has.found) has.there.bytes_are

  pub before_end : w.at < length bytes
  before_end = omega (arith, length-drop w.at bytes, ap (λ (l : List ℕ). length l) rest_at, has.some)

  parts : take w.at bytes ++ has.rest ≡ bytes
  parts = ap (λ l. take w.at bytes ++ l) (sym rest_at) ∙ take-append-drop w.at bytes

  pub all_long : length bytes ≡ length (take w.at bytes ++ has.rest)
  all_long = ap (λ (l : List ℕ). length l) (sym parts)

  pub parted : {D : Type 0} (seen : D → Option (List ℕ)) (disk : D) → seen disk ≡ Some bytes → IsParted seen disk w.at (take w.at bytes) has.rest
  parted seen disk told = record {
    bytes = told ∙ ap (λ l. Some l) (sym parts);
    place_is = omega (arith, length-take w.at bytes, before_end);
    some = has.some;
  }

  pub one_more : (next : Walk) (body : List ℕ) (made : Plain) → IsWithRecord w body index next made → BeginsWith body has.rest → HasReplayed from opening base bytes next made
  one_more next body made with begins =
      let v = with.found in
      let vs = has.found in
      let long : length body ≡ body_length v = ap (λ (l : List ℕ). length l) with.body_is ∙ record_long v in
      record {
        found = vs ++ v ∷ [];
        rest = begins.after;
        there = record {
          bytes_are = has.there.bytes_are ∙ ap (λ l. records (bodies_of vs) ++ l) (begins.rest_is ∙ ap (λ b. framed b ++ begins.after) with.body_is)
              ∙ sym (records-push (bodies_of vs) (record_bytes v) begins.after) ∙ ap (λ bs. records bs ++ begins.after) (sym (bodies-push vs v));
          placed = placed-push opening w.version next.version vs v has.there.placed with.is with.follows;
        };
        at_is = omega (arith, ap (λ n. n.at) with.next_is, has.at_is, place-push vs v, long);
        some = begins.some;
        ops_is = omega (arith, ap (λ n. n.ops) with.next_is, has.ops_is, count-push vs v, one_counts v);
        first_is = ap (λ n. n.first) with.next_is ∙ first-push vs v w.first (length body) has.first_is long;
        index_is = with.made_is ∙ (λ i. applied (has.index_is i) (placed_record (has.at_is i + 5) v)) ∙ sym (indexed-push from base vs v);
      }

  pub cut_short : (place : ℕ) → place ≡ w.at → IsCutShort has.rest → IsDamagedRow IsBodyOrHead from opening place bytes
  cut_short place is cut = record { found = has.found; version = w.version; rest = has.rest; there = has.there; place_is = is ∙ has.at_is; cause = inl cut }

  pub foreign : (place : ℕ) (body : List ℕ) → place ≡ w.at → BeginsWith body has.rest → (IsBodyOf w.version body → ⊥) → (IsHead body → ⊥) → IsDamagedRow IsBodyOrHead from opening place bytes
  foreign place body is begins none other = record {
    found = has.found;
    version = w.version;
    rest = has.rest;
    there = has.there;
    place_is = is ∙ has.at_is;
    cause = inr (record {
      body = body;
      after = begins.after;
      rest_is = begins.rest_is;
      some = begins.some;
      fits = begins.fits;
      none = λ may. elim may [
        | inl one ↦ none one
        | inr head ↦ other head
      ];
    });
  }
