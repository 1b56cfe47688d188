-- What answers do with payloads is the same for bytes and for offsets.
use Rattle.std.proofs.Common.{◌≡◌, ℕ, zero, suc, ◌-◌, List, [], ◌∷◌, ◌++◌, map, length, take, filter, flat_map, Option, None, Some, is_none, Bool, true, false, cond, nat_le, nat_lt, ◌&&◌, not, refl, sym, ap, ◌∙◌, option_map}
use Rattle.ld_table.specs.Table.{find, map_values}
use Rattle.ld_table.specs.Words.{values}
use Rattle.ld_table.proofs.Laws.{find-map_values}
use Rattle.ld_lsn.specs.Number.{epoch_of, numbered, home_epoch, home_esn}
use Rattle.ld_msg.specs.declared.msg.What.{What}
use Rattle.ld_msg.specs.declared.msg.What.TheVariants.{Rec, Hole, Bridge, Plug, Withheld}
use Rattle.ld_msg.specs.declared.msg.Entry.{Entry}
use Rattle.ld_msg.specs.declared.msg.Summary.{Summary}
use Rattle.ld_msg.specs.declared.msg.Body.{Body}
use Rattle.ld_msg.specs.declared.msg.Body.TheVariants as bodies
use Rattle.ld_msg.specs.Digest.{is_bridge}
use Rattle.ld_op.specs.Plain.{Log, summary_at, is_lost, end_here, lng_at}
use Rattle.ld_op.specs.Answers.{digest_decision, Lost, Trimmed, Sealed, Same, Take, store_decision, is_same, or_clean, entries_within, readable, page_limit, last_number, page_upto, read_page, digest_page, open_answer, clean_page, epoch_answer, read_answer, lets_read, on_clean, on_trim, withheld, withheld_what, withheld_in, one_answer, is_node}
use Rattle.ld_op.specs.Ticks.{Nothing, refill_tick, lowest_unclean, tick_with, on_tick, missing, missing_of, numbers_of, is_missing, is_below_end, lacking, as_closed, refill_op, page_op, on_page}
use Rattle.ld_op.specs.Cells.{each_what, each_entry, each_log, each_body}
use Rattle.ld_msg.specs.Choice.{sender}

-- ---- lists ----
module _ {X Y : Type 0} (f : X → Y) where
  pub filter-map : (P : X → Bool) (Q : Y → Bool) → ((x : X) → Q (f x) ≡ P x) → (xs : List X) → map f (filter P xs) ≡ filter Q (map f xs)
  filter-map P Q same [] = refl
  filter-map P Q same (x ∷ xs) = step (P x) x (filter P xs) (filter Q (map f xs)) (filter-map P Q same xs) ∙ ap (λ b. cond b (f x ∷ filter Q (map f xs)) (filter Q (map f xs))) (sym (same x))
    where
      step : (b : Bool) (x : X) (ys : List X) (zs : List Y) → map f ys ≡ zs → map f (cond b (x ∷ ys) ys) ≡ cond b (f x ∷ zs) zs
      step true x ys zs is = ap (λ l. f x ∷ l) is
      step false x ys zs is = is

  pub values-map : (m : List (ℕ × X)) → values (map_values f m) ≡ map f (values m)
  values-map [] = refl
  values-map (e ∷ m) = ap (λ l. f e.1 ∷ l) (values-map m)

  pub take-map : (n : ℕ) (xs : List X) → take n (map f xs) ≡ map f (take n xs)
  take-map zero [] = refl
  take-map zero (x ∷ xs) = refl
  take-map (suc n) [] = refl
  take-map (suc n) (x ∷ xs) = ap (λ l. f x ∷ l) (take-map n xs)

  pub length-map : (xs : List X) → length (map f xs) ≡ length xs
  length-map [] = refl
  length-map (x ∷ xs) = ap suc (length-map xs)

module _ (f : ℕ → ℕ) where
  abbrev each : List Entry → List Entry
  each es = map (each_entry f) es

  is_bridge_same : (w : What) → is_bridge (each_what f w) ≡ is_bridge w
  is_bridge_same (Rec p) = refl
  is_bridge_same Hole = refl
  is_bridge_same Bridge = refl
  is_bridge_same Plug = refl
  is_bridge_same Withheld = refl

  pub within_same : (g : Log) (from last : ℕ) → entries_within (each_log f g) from last ≡ each (entries_within g from last)
  within_same g from last = ap (filter (λ (e : Entry). nat_le from e.number && nat_le e.number last)) (values-map (each_entry f) g.entries)
      ∙ sym (filter-map (each_entry f) (λ e. nat_le from e.number && nat_le e.number last) (λ e. nat_le from e.number && nat_le e.number last) (λ e. refl) (values g.entries))

  pub readable_same : (g : Log) (from last : ℕ) → readable (each_log f g) from last ≡ each (readable g from last)
  readable_same g from last = ap (filter (λ (e : Entry). not (is_bridge e.what))) (within_same g from last)
      ∙ sym (filter-map (each_entry f) (λ e. not (is_bridge e.what)) (λ e. not (is_bridge e.what)) (λ e. ap not (is_bridge_same e.what)) (entries_within g from last))

  last_same : (es : List Entry) → last_number (each es) ≡ last_number es
  last_same [] = refl
  last_same (e ∷ []) = refl
  last_same (e ∷ g ∷ es) = last_same (g ∷ es)

  upto_same : (es : List Entry) (bound : ℕ) → page_upto (each es) bound ≡ page_upto es bound
  upto_same es bound = ap (λ n. cond (nat_lt page_limit n) (last_number (take page_limit (each es))) bound) (length-map (each_entry f) es)
      ∙ ap (λ k. cond (nat_lt page_limit (length es)) k bound) (ap last_number (take-map (each_entry f) page_limit es) ∙ last_same (take page_limit es))

  page_same : (round from bound : ℕ) (clean : Bool) (es : List Entry) → each_body f (read_page round from clean bound es) ≡ read_page round from clean bound (each es)
  page_same round from bound clean es = (λ i. bodies.ReadPage round from (sym (upto_same es bound) i) clean (sym (take-map (each_entry f) page_limit es) i))

  pub digest_same : (g : Log) (from bound : ℕ) (es : List Entry) → each_body f (digest_page g from es bound) ≡ digest_page (each_log f g) from (each es) bound
  digest_same g from bound es = (λ i. bodies.DigestPage from (sym (upto_same es bound) i) g.trim (lng_at g (epoch_of from)) (sym (take-map (each_entry f) page_limit es) i))

  -- ---- a reader's answer ----

  body_if : (b : Bool) (x y u v : Body) → each_body f x ≡ u → each_body f y ≡ v → each_body f (cond b x y) ≡ cond b u v
  body_if true x y u v is or = is
  body_if false x y u v is or = or

  open_same : (g : Log) (released round from : ℕ) → each_body f (open_answer g released round from) ≡ open_answer (each_log f g) released round from
  open_same g released round from = body_if (lets_read released from) _ _ _ _ (page_same round from released false (readable g from released) ∙ ap (read_page round from false released) (sym (readable_same g from released))) refl

  clean_same : (g : Log) (round from : ℕ) (y : Summary) → each_body f (clean_page g round from y) ≡ clean_page (each_log f g) round from y
  clean_same g round from y =
      let last : ℕ = numbered (home_epoch from) (y.end - 1) in page_same round from last true (readable g from last) ∙ ap (read_page round from true last) (sym (readable_same g from last))

  epoch_same : (generation : ℕ) (g : Log) (released round from : ℕ) (o : Option Summary) → each_body f (epoch_answer generation g released round from o) ≡ epoch_answer generation (each_log f g) released round from o
  epoch_same generation g released round from None = body_if (is_lost g (home_epoch from)) _ _ _ _ refl (open_same g released round from)
  epoch_same generation g released round from (Some y) = body_if (nat_le y.end (home_esn from)) _ _ _ _ refl (body_if (is_lost g (home_epoch from)) _ _ _ _ refl (clean_same g round from y))

  pub answer_same : (generation : ℕ) (g : Log) (released round from : ℕ) → each_body f (read_answer generation g released round from) ≡ read_answer generation (each_log f g) released round from
  unfolding read_answer summary_at
  answer_same generation g released round from = body_if (nat_le from g.trim) _ _ _ _ refl (epoch_same generation g released round from (summary_at g (home_epoch from)))

  -- ---- ops of messages ----

  pub clean_op_same : (g : Log) (l epoch : ℕ) (y : Summary) → on_clean (each_log f g) l epoch y ≡ on_clean g l epoch y
  unfolding on_clean summary_at
  clean_op_same g l epoch y = refl

  pub trim_op_same : (g : Log) (l t : ℕ) → on_trim (each_log f g) l t ≡ on_trim g l t
  unfolding on_trim
  trim_op_same g l t = refl

  none_same : (o : Option Entry) → is_none (option_map (each_entry f) o) ≡ is_none o
  none_same None = refl
  none_same (Some e) = refl

  pub lacks_same : (g : Log) (n : ℕ) → is_none (find n (each_log f g).entries) ≡ is_none (find n g.entries)
  lacks_same g n = ap is_none (find-map_values (each_entry f) n g.entries) ∙ none_same (find n g.entries)

  pub missing_same : (g : Log) (s : ℕ) → is_missing (each_log f g) s ≡ is_missing g s
  unfolding is_missing
  missing_same g s = ap (λ b. ((nat_lt g.trim s && nat_le (epoch_of s) g.lost_to) && is_below_end s (find (epoch_of s) g.summaries)) && b) (lacks_same g s)

  closed_same : (g : Log) (es : List Entry) → lacking (each_log f g) es ≡ lacking g es
  closed_same g [] = refl
  closed_same g (e ∷ es) = step (is_missing (each_log f g) e.number) (is_missing g e.number) (missing_same g e.number) (closed_same g es)
    where
      step : (b c : Bool) → b ≡ c → lacking (each_log f g) es ≡ lacking g es → map (as_closed (each_log f g)) (cond b (e ∷ filter (λ x. is_missing (each_log f g) x.number) es) (filter (λ x. is_missing (each_log f g) x.number) es))
          ≡ map (as_closed g) (cond c (e ∷ filter (λ x. is_missing g x.number) es) (filter (λ x. is_missing g x.number) es))
      step true true same is = ap (λ l. as_closed g e ∷ l) is
      step true false same is = absurd (cc same)
      step false true same is = absurd (cc same)
      step false false same is = is

  page_op_same : (g : Log) (l : ℕ) (b : Body) → page_op (each_log f g) l b ≡ page_op g l b
  page_op_same g l (bodies.ReadPage round from upto clean es) = ap (λ m. cond clean (refill_op l m) None) (closed_same g es)
  page_op_same g l (bodies.ReadTrim round from trim) = refl
  page_op_same g l _ = refl

  pub on_page_same : (g : Log) (l : ℕ) (b : Body) → on_page (each_log f g) l b ≡ on_page g l b
  unfolding on_page
  on_page_same g l b = ap (λ o. record { op = cond g.lost o None; answer = None }) (page_op_same g l b)

  -- ---- one copy ----

  withheld_by : (b : Bool) (w : What) → withheld_what b (each_what f w) ≡ each_what f (withheld_what b w)
  withheld_by true (Rec p) = refl
  withheld_by false (Rec p) = refl
  withheld_by b Hole = refl
  withheld_by b Bridge = refl
  withheld_by b Plug = refl
  withheld_by b Withheld = refl

  withheld_each : (n : ℕ) (set excluded : List Bool) (es : List Entry) → each (map (withheld n set excluded) es) ≡ map (withheld n set excluded) (each es)
  withheld_each n set excluded [] = refl
  withheld_each n set excluded (e ∷ es) =
      (λ i. record { number = e.number; ballot = e.ballot; what = sym (withheld_by (is_node n (sender set excluded e.number)) e.what) i } ∷ withheld_each n set excluded es i)

  withheld_same : (n : ℕ) (set excluded : List Bool) (b : Body) → each_body f (withheld_in n set excluded b) ≡ withheld_in n set excluded (each_body f b)
  withheld_same n set excluded (bodies.ReadPage round from upto clean es) = ap (bodies.ReadPage round from upto clean) (withheld_each n set excluded es)
  withheld_same n set excluded (bodies.DigestPage from upto trim lng es) = refl
  withheld_same n set excluded _ = refl

  pub one_same : (n generation : ℕ) (g : Log) (released round from : ℕ) (set excluded : List Bool) → each_body f (one_answer n generation g released round from set excluded) ≡ one_answer n generation (each_log f g) released round from set excluded
  unfolding one_answer
  one_same n generation g released round from set excluded = withheld_same n set excluded (read_answer generation g released round from) ∙ ap (withheld_in n set excluded) (answer_same generation g released round from)

  -- ---- decisions ----

  pub digest_decision_same : (g : Log) (ballot from : ℕ) → digest_decision (each_log f g) ballot from ≡ digest_decision g ballot from
  unfolding digest_decision summary_at
  digest_decision_same g ballot from = refl

  -- where the same stands there, or doesn't, for both
  pub store_decision_same : (g : Log) (e : Entry) → is_same e (find e.number (each_log f g).entries) ≡ is_same e (find e.number g.entries) → store_decision (each_log f g) e ≡ store_decision g e
  unfolding store_decision summary_at
  store_decision_same g e same = ap (λ b. cond (is_lost g (epoch_of e.number)) (Lost (end_here g (epoch_of e.number))) (or_clean (summary_at g (epoch_of e.number)) (cond (nat_le e.number g.trim) (Trimmed g.trim) (cond (nat_lt e.ballot g.sealed) (Sealed g.sealed) (cond b Same Take))))) same

  -- ---- what is missing ----

  filter_same : (P Q : ℕ → Bool) → ((n : ℕ) → P n ≡ Q n) → (ns : List ℕ) → filter P ns ≡ filter Q ns
  filter_same P Q same [] = refl
  filter_same P Q same (n ∷ ns) = (λ i. cond (same n i) (n ∷ filter_same P Q same ns i) (filter_same P Q same ns i))

  missing_of_same : (g : Log) (s : ℕ × Summary) → missing_of (each_log f g) s ≡ missing_of g s
  missing_of_same g s = ap (λ ns. cond (nat_le s.0 g.lost_to) ns []) (filter_same (λ n. is_none (find n (each_log f g).entries)) (λ n. is_none (find n g.entries)) (lacks_same g) (numbers_of g s.0 s.1))

  flat_same : (g : Log) (ss : List (ℕ × Summary)) → flat_map (missing_of (each_log f g)) ss ≡ flat_map (missing_of g) ss
  flat_same g [] = refl
  flat_same g (s ∷ ss) = (λ i. missing_of_same g s i ++ flat_same g ss i)

  pub all_missing_same : (g : Log) → missing (each_log f g) ≡ missing g
  unfolding missing
  all_missing_same g = flat_same g g.summaries

  tick_by : (g : Log) (o : Option Summary) → tick_with (each_log f g) o ≡ tick_with g o
  tick_by g None = ap (λ ns. cond g.lost (refill_tick (nat_lt g.lost_to (lowest_unclean g)) ns) Nothing) (all_missing_same g)
  tick_by g (Some y) = refl

  pub tick_same : (g : Log) (closed : List (ℕ × Summary)) → on_tick (each_log f g) closed ≡ on_tick g closed
  unfolding on_tick
  tick_same g closed = tick_by g (find (lowest_unclean g) closed)
