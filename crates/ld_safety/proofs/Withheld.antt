-- Pages in which records are withheld.
use Rattle.std.proofs.Common.{◌≡◌, ◌∙◌, ℕ, refl, ap, sym, subst, Bool, true, false, not, ◌==◌, cond, filter, map, List, [], ◌∷◌, Some, is_some}
use Rattle.std.proofs.lemmas.Bool.{not-true}
use Rattle.ld_msg.specs.declared.msg.What.{What}
use Rattle.ld_msg.specs.declared.msg.What.TheVariants.{Rec, Hole, Bridge, Plug, Withheld}
use Rattle.ld_msg.specs.declared.msg.Entry.{Entry}
use Rattle.ld_msg.specs.declared.msg.Body.{Body}
use Rattle.ld_msg.specs.declared.msg.Body.TheVariants as bodies
use Rattle.ld_msg.specs.Choice.{sender}
use Rattle.ld_msg.specs.Reading.{entry_at}
use Rattle.ld_op.specs.Plain.{Log}
use Rattle.ld_op.specs.Answers.{read_answer, one_answer, withheld, withheld_what, withheld_in, is_node}
use Rattle.ld_machine.specs.Invariant.{is_withheld}
use Rattle.ld_machine.specs.World.{In}
use Rattle.ld_safety.proofs.Lists.{In-map}
use Rattle.ld_safety.proofs.Members.{In_filter, filter_in}

-- the entries that say what they hold
abbrev pub told_in : List Entry → List Entry
told_in es = filter (λ e. not (is_withheld e.what)) es

-- each entry does
abbrev pub Whole : List Entry → Type 0
Whole es = (e : Entry) → In e es → is_withheld e.what ≡ false

pub told_from : (e : Entry) (es : List Entry) → In e (told_in es) → In e es × (is_withheld e.what ≡ false)
told_from e es i = let f = In_filter (λ (x : Entry). not (is_withheld x.what)) e es i in (f.0, not-true _ f.1)

pub told_entry : (e : Entry) (es : List Entry) → In e es → is_withheld e.what ≡ false → In e (told_in es)
told_entry e es i h = filter_in (λ (x : Entry). not (is_withheld x.what)) e es i (ap not h)

pub told_what : (e : Entry) (es : List Entry) (w : What) → In e es → e.what ≡ w → is_withheld w ≡ false → In e (told_in es)
told_what e es w i q h = told_entry e es i (ap is_withheld q ∙ h)

what_same : (b : Bool) (w : What) → is_withheld (withheld_what b w) ≡ false → withheld_what b w ≡ w
what_same true (Rec p) h = refl
what_same false (Rec p) h = absurd cc
what_same b Hole h = refl
what_same b Bridge h = refl
what_same b Plug h = refl
what_same b Withheld h = refl

module _ (n : ℕ) (set excluded : List Bool) where
  -- what isn't withheld is as it was
  entry_same : (f : Entry) → is_withheld (withheld n set excluded f).what ≡ false → withheld n set excluded f ≡ f
  entry_same f h = ap (λ w. record f { what = w }) (what_same (is_node n (sender set excluded f.number)) f.what h)

  pub told_withheld : (es : List Entry) (e : Entry) → In e (told_in (map (withheld n set excluded) es)) → In e (told_in es)
  told_withheld es e i =
      let t = told_from e (map (withheld n set excluded) es) i in
      let m = In-map (withheld n set excluded) e es t.0 in
      let q : e ≡ m.0 = m.2 ∙ entry_same m.0 (ap (λ (x : Entry). is_withheld x.what) (sym m.2) ∙ t.1) in
      told_entry e es (subst (λ x. In x es) (sym q) m.1) t.1

  -- a number that a page shows is there still
  pub still_there : (s : ℕ) (es : List Entry) → is_some (entry_at s (map (withheld n set excluded) es)) ≡ is_some (entry_at s es)
  still_there s [] = refl
  still_there s (e ∷ es) = by_number (e.number == s) (still_there s es) where
    by_number : (b : Bool) → is_some (entry_at s (map (withheld n set excluded) es)) ≡ is_some (entry_at s es) → is_some (cond b (Some (withheld n set excluded e).what) (entry_at s (map (withheld n set excluded) es))) ≡ is_some (cond b (Some e.what) (entry_at s es))
    by_number true h = refl
    by_number false h = h

  -- what holds of an answer to an ask for all, and still where records are withheld, holds of one to an ask for one copy
  pub of_one : (P : Body → Type 0) (generation : ℕ) (g : Log) (released round from : ℕ) → ((b : Body) → P b → P (withheld_in n set excluded b)) → P (read_answer generation g released round from) → P (one_answer n generation g released round from set excluded)
  unfolding one_answer
  of_one P generation g released round from more h = more (read_answer generation g released round from) h

  -- what holds where records are withheld holds of an answer to an ask for one copy
  pub withheld_one : (P : Body → Type 0) (generation : ℕ) (g : Log) (released round from : ℕ) → ((b : Body) → P (withheld_in n set excluded b)) → P (one_answer n generation g released round from set excluded)
  unfolding one_answer
  withheld_one P generation g released round from h = h (read_answer generation g released round from)

  same_kind : (p : Body → Bool) → ((round from upto : ℕ) (clean : Bool) (es fs : List Entry) → p (bodies.ReadPage round from upto clean es) ≡ p (bodies.ReadPage round from upto clean fs)) → (b : Body) → p (withheld_in n set excluded b) ≡ p b
  same_kind p h (bodies.ReadPage round from upto clean es) = h round from upto clean _ es
  same_kind p h _ = refl

  -- what doesn't look at a page's entries says the same of both
  pub one_kind : (p : Body → Bool) (k : Bool) → ((round from upto : ℕ) (clean : Bool) (es fs : List Entry) → p (bodies.ReadPage round from upto clean es) ≡ p (bodies.ReadPage round from upto clean fs))
      → (generation : ℕ) (g : Log) (released round from : ℕ) → p (read_answer generation g released round from) ≡ k → p (one_answer n generation g released round from set excluded) ≡ k
  one_kind p k h generation g released round from = of_one (λ b. p b ≡ k) generation g released round from (λ b q. same_kind p h b ∙ q)
