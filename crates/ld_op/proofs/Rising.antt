-- Reading items whose keys rise.
use Rattle.std.proofs.Common.{◌≡◌, ◌==◌, ◌<◌, ◌≤◌, ◌+◌, ◌-◌, ℕ, Bool, true, false, cond, List, [], ◌∷◌, ◌++◌, refl, ap, sym, ◌∙◌, subst, length, drop, nat_le, nat_cmp, Greater, arith}
use Rattle.std.proofs.lemmas.Bool.Decides.{nat_tests}
use Rattle.std.specs.Ordering.{match_ordering}
use Rattle.std.specs.BTreeMap.{insert_entry}
use Rattle.byteorder.specs.Endian.{big_number}
use Rattle.ld_table.specs.Table.{put}
use Rattle.ld_msg.specs.declared.msg.Summary.{Summary}
use Rattle.ld_fields.specs.declared.fault.FieldFault.{FieldFault}
use Rattle.ld_fields.specs.declared.fault.FieldFault.TheVariants.{Bad, NoMemory}
use Rattle.ld_fields.specs.Faults.{IsOff}
use Rattle.ld_fields.specs.Fields.{Read, Got, Off, follow, field}
use Rattle.ld_fields.specs.Items.{read_older_summary, read_flag, read_summary, with_loss}
use Rattle.ld_fields.specs.Resumed.{resumed}
use Rattle.ld_fields.proofs.Parts.{prefixed, done, less, none_left}
use Rattle.ld_fields.proofs.Unspelling.{by_follow, by_check, by_got}
use Rattle.ld_op.specs.Indexed.{read_rising}

-- ---- the place behind a summary ----

field_behind : (at v x next : ℕ) (b : Bool) → cond b (Got v (at + 1)) (Off at) ≡ Got x next → at + 1 ≡ next
field_behind at v x next true e = cc
field_behind at v x next false e = absurd cc

one_behind : (bs : List ℕ) (at x next : ℕ) → field 1 bs at ≡ Got x next → 1 ≤ next
unfolding field
one_behind bs at x next e = let m = field_behind at (big_number 1 (drop at bs)) x next (nat_le (at + 1) (length bs)) e in omega arith

flag_behind : (bs : List ℕ) (at : ℕ) (b : Bool) (next : ℕ) → read_flag bs at ≡ Got b next → 1 ≤ next
flag_behind bs at b next e = by_follow (field 1 bs at) _ b next e (λ x k f r. by_check (nat_le x 1) at (Got (x == 1) k) b next r (λ ok r. by_got (x == 1) b k next r (λ is n. subst (λ m. 1 ≤ m) n (one_behind bs at x k f))))

pub summary_behind : (bs : List ℕ) (epoch at : ℕ) (y : Summary) (next : ℕ) → read_summary bs epoch at ≡ Got y next → 1 ≤ next
unfolding read_summary
summary_behind bs epoch at y next e = by_follow (read_older_summary bs epoch at) _ y next e (λ o k f r. by_follow (read_flag bs k) _ y next r (λ loss m g r. by_got (with_loss o loss) y m next r (λ is n. subst (λ j. 1 ≤ j) n (flag_behind bs k loss m g))))

-- ---- items ----

greater : (x y : ℕ) → x < y → nat_cmp y x ≡ Greater
greater x y h = grind (arith, nat_tests)

module _ {X : Type 0} where
  -- all keys are below a number
  abbrev pub Below : ℕ → List (ℕ × X) → Type 0
  Below n [] = Unit {0}
  Below n (e ∷ m) = (e.0 < n) × Below n m

  -- what comes under a greater key comes last
  put_last : (n k : ℕ) (v : X) (m : List (ℕ × X)) → Below n m → n ≤ k → put k v m ≡ m ++ (k, v) ∷ []
  unfolding put
  put_last n k v [] b h = refl
  put_last n k v (e ∷ m) b h = ap (λ r. match_ordering r ((k, v) ∷ e ∷ m) ((e.0, v) ∷ m) (e ∷ insert_entry nat_cmp m k v)) (greater e.0 k (let l = b.0 in omega arith)) ∙ ap (λ r. e ∷ r) (put_last n k v m b.1 h)

  below_last : (n k : ℕ) (v : X) (m : List (ℕ × X)) → Below n m → n ≤ k → Below (k + 1) (m ++ (k, v) ∷ [])
  below_last n k v [] b h = (omega arith, tt)
  below_last n k v (e ∷ m) b h = ((let l = b.0 in omega arith), below_last n k v m b.1 h)

  -- some items are read, and the rest is read from there
  pub record Reading (item : ℕ → ℕ → Read (ℕ × X)) (n i least at : ℕ) (acc : List (ℕ × X)) (whole : Read (List (ℕ × X))) : Type 0 where
    pub below : Below least acc
    pub rest : resumed acc (read_rising item (n - i) least at) ≡ whole

  all_read : (r : Read (List (ℕ × X))) → resumed [] r ≡ r
  all_read (Got xs last) = refl
  all_read (Off place) = refl

  pub reading_starts : (item : ℕ → ℕ → Read (ℕ × X)) (n at : ℕ) (acc : List (ℕ × X)) → acc ≡ [] → Reading item n 0 0 at acc (read_rising item n 0 at)
  reading_starts item n at acc h = record {
    below = subst (Below 0) (sym h) tt;
    rest = ap (λ m. resumed m (read_rising item (n - 0) 0 at)) h ∙ (all_read (read_rising item (n - 0) 0 at) ∙ ap (λ k. read_rising item k 0 at) (let e : n - 0 ≡ n = omega arith in e));
  }

  pub reading_on : (item : ℕ → ℕ → Read (ℕ × X)) (n i least at next after k : ℕ) (v : X) (acc new : List (ℕ × X)) (whole : Read (List (ℕ × X))) → Reading item n i least at acc whole → i < n → item least at ≡ Got (k, v) next → least ≤ k → after ≡ k + 1 → new ≡ put k v acc
      → Reading item n (i + 1) after next new whole
  unfolding read_rising
  reading_on item n i least at next after k v acc new whole r h g l a e =
      let last : new ≡ acc ++ (k, v) ∷ [] = e ∙ put_last least k v acc r.below l in record {
        below = subst (λ m. Below after m) (sym last) (subst (λ x. Below x (acc ++ (k, v) ∷ [])) (sym a) (below_last least k v acc r.below l));
        rest = ap (λ m. resumed m (read_rising item (n - (i + 1)) after next)) last ∙ (ap (λ x. resumed (acc ++ (k, v) ∷ []) (read_rising item (n - (i + 1)) x next)) a
            ∙ (sym (ap (λ j. resumed acc (read_rising item j least at)) (less n i h)
            ∙ (ap (λ x. resumed acc (follow x (λ d next. follow (read_rising item (n - (i + 1)) (d.0 + 1) next) (λ ds last. Got (d ∷ ds) last)))) g
            ∙ prefixed acc (k, v) (read_rising item (n - (i + 1)) (k + 1) next))) ∙ r.rest));
      }

  pub reading_ends : (item : ℕ → ℕ → Read (ℕ × X)) (n i least at : ℕ) (acc : List (ℕ × X)) (whole : Read (List (ℕ × X))) → Reading item n i least at acc whole → i ≡ n → whole ≡ Got acc at
  unfolding read_rising
  reading_ends item n i least at acc whole r h = sym r.rest ∙ (ap (λ k. resumed acc (read_rising item (n - k) least at)) h ∙ (ap (λ k. resumed acc (read_rising item k least at)) (none_left n) ∙ done acc at))

  -- a fault names the offset of the item
  pub reading_fails : (item : ℕ → ℕ → Read (ℕ × X)) (n i least at : ℕ) (acc : List (ℕ × X)) (whole : Read (List (ℕ × X))) (e : FieldFault) → Reading item n i least at acc whole → i < n → IsOff (item least at) e → IsOff whole e
  unfolding read_rising
  reading_fails item n i least at acc whole (Bad place) r h o = sym r.rest ∙ (ap (λ k. resumed acc (read_rising item k least at)) (less n i h)
      ∙ ap (λ x. resumed acc (follow x (λ d next. follow (read_rising item (n - (i + 1)) (d.0 + 1) next) (λ ds last. Got (d ∷ ds) last)))) o)
  reading_fails item n i least at acc whole NoMemory r h o = tt
