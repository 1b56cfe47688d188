use Rattle.std.proofs.Common.{◌≡◌, ◌∙◌, ℕ, List, false, nat_lt, arith, inr, inl, refl, ap, sym, subst}
use Rattle.ld_msg.specs.Register.{View}
use Rattle.ld_msg.specs.Reader.{round_of}
use Rattle.ld_msg.specs.Reading.{Item}
use Rattle.ld_reader.specs.Following.{Following, replied, HasDone}
use Rattle.ld_reader.specs.Tiling.{Tiles}
use Rattle.ld_reader.specs.Looks.{looks_of, AreLooks}
use Rattle.ld_reader.proofs.Answering.{past_so, other_so, stale_so, replied_so, heard_so, replied_later, confirmed_by, other_confirms}
use Rattle.ld_reader.proofs.Looking.{blanks, are_blanks}
use Rattle.ld_reader.proofs.Tiling.{read_tiles}
use Rattle.ld_reader.proofs.reader.Reader.on_reply.Goals as goal

pub returns-then-finished-clause-acted : goal.returns-then-finished-clause-acted
returns-then-finished-clause-acted g c =
    let f = c.args.self.now in
    (blanks f, are_blanks f, past_so (blanks f) f c.args.msg.now c.empty.result c.args.out.now c.empty.ensures (sym c.finished.ensures.finished ∙ c.if-finished.true))

pub returns-in_default : goal.returns-in_default
returns-in_default g c =
    let f = c.args.self.now in
    let done : (looks : ℕ → View) → HasDone f f c.empty-in_default.result c.args.out.now c.args.out.now (replied looks f c.args.msg.now) = λ looks. other_so looks f c.args.msg.now c.empty-in_default.result c.args.out.now c.empty-in_default.ensures c.in_default.not-Node in
    record {
      exact = λ d t. (done (looks_of f d), t);
      foretold = λ d t. tt;
      held = λ d h. (done (looks_of f d), h);
      acted = (blanks f, are_blanks f, done (blanks f));
      tiles = subst (λ (is : List (ℕ × Item)). Tiles f.reader.next is f.reader.next) (sym c.empty-in_default.ensures) refl;
      within = c.finished.ensures.within;
      reader_err = tt;
      sent_err = tt;
      idle = λ none. (refl, refl);
      due = λ fault e. absurd cc;
      looked = λ sure t. let none = other_confirms f.reader c.args.msg.now.from c.args.msg.now.body c.in_default.not-Node in absurd cc;
      whole = λ t. inl (refl, refl);
      told = λ t. t;
      same = λ d m. m;
      survives = λ cs t l. l;
      keeps = inr (record { held = λ d h. h; may = λ d h. h });
      failed = λ e. absurd cc;
      steady = inr refl;
      damaged = λ place e t. absurd cc;
      refused = tt;
      counts = omega arith;
      itself = refl;
      messages = λ m. m;
    }

pub returns-then-is_stale-clause-exact : goal.returns-then-is_stale-clause-exact
returns-then-is_stale-clause-exact g c = λ d t.
    let f = c.args.self.now in
    (stale_so (looks_of f d) f c.args.msg.now c.in-Node.node c.empty-then-is_stale.result c.args.out.now c.empty-then-is_stale.ensures (sym c.finished.ensures.finished ∙ c.if-finished.false) c.in-Node.is (sym c.is_stale.ensures ∙ c.if-is_stale.true), t)

pub returns-then-is_stale-clause-held : goal.returns-then-is_stale-clause-held
returns-then-is_stale-clause-held g c = λ d t.
    let f = c.args.self.now in
    (stale_so (looks_of f d) f c.args.msg.now c.in-Node.node c.empty-then-is_stale.result c.args.out.now c.empty-then-is_stale.ensures (sym c.finished.ensures.finished ∙ c.if-finished.false) c.in-Node.is (sym c.is_stale.ensures ∙ c.if-is_stale.true), t)

pub returns-then-is_stale-clause-acted : goal.returns-then-is_stale-clause-acted
returns-then-is_stale-clause-acted g c =
    let f = c.args.self.now in
    (blanks f, are_blanks f, stale_so (blanks f) f c.args.msg.now c.in-Node.node c.empty-then-is_stale.result c.args.out.now c.empty-then-is_stale.ensures (sym c.finished.ensures.finished ∙ c.if-finished.false) c.in-Node.is (sym c.is_stale.ensures ∙ c.if-is_stale.true))

pub returns-in-Ok-clause-exact : goal.returns-in-Ok-clause-exact
returns-in-Ok-clause-exact g c = λ d t.
    let f = c.args.self.now in
    let taken : nat_lt (round_of c.in_ok-body.body) f.reader.least ≡ false = ap (λ b. nat_lt (round_of b) f.reader.least) c.in_ok-body.ensures ∙ (sym c.is_stale.ensures ∙ c.if-is_stale.false) in
    let x = c.in-Ok.ensures.exact d t in
    let h = heard_so (λ k. looks_of k d) f c.hear.new.self c.react.new.self c.in-Node.node c.in_ok-body.body c.in_ok-heard.heard.noted.lasts c.in-Ok.items c.args.out.now c.react.new.out taken c.in_ok-heard.ensures.heard x.0 in
    (replied_so (looks_of f d) f c.react.new.self c.args.msg.now c.in-Node.node c.in_ok-body.body c.in-Ok.items c.args.out.now c.react.new.out (sym c.finished.ensures.finished ∙ c.if-finished.false) c.in-Node.is c.in_ok-body.ensures h, x.1)

pub returns-in-Ok-clause-held : goal.returns-in-Ok-clause-held
returns-in-Ok-clause-held g c = λ d t.
    let f = c.args.self.now in
    let taken : nat_lt (round_of c.in_ok-body.body) f.reader.least ≡ false = ap (λ b. nat_lt (round_of b) f.reader.least) c.in_ok-body.ensures ∙ (sym c.is_stale.ensures ∙ c.if-is_stale.false) in
    let x = c.in-Ok.ensures.held d t in
    let h = heard_so (λ k. looks_of k d) f c.hear.new.self c.react.new.self c.in-Node.node c.in_ok-body.body c.in_ok-heard.heard.noted.lasts c.in-Ok.items c.args.out.now c.react.new.out taken c.in_ok-heard.ensures.heard x.0 in
    (replied_so (looks_of f d) f c.react.new.self c.args.msg.now c.in-Node.node c.in_ok-body.body c.in-Ok.items c.args.out.now c.react.new.out (sym c.finished.ensures.finished ∙ c.if-finished.false) c.in-Node.is c.in_ok-body.ensures h, x.1)

pub returns-in-Ok-clause-acted : goal.returns-in-Ok-clause-acted
returns-in-Ok-clause-acted g c =
    let f = c.args.self.now in
    let taken : nat_lt (round_of c.in_ok-body.body) f.reader.least ≡ false = ap (λ b. nat_lt (round_of b) f.reader.least) c.in_ok-body.ensures ∙ (sym c.is_stale.ensures ∙ c.if-is_stale.false) in
    let x = c.in-Ok.ensures.acted in
    let h = heard_so (λ k. x.0) f c.hear.new.self c.react.new.self c.in-Node.node c.in_ok-body.body c.in_ok-heard.heard.noted.lasts c.in-Ok.items c.args.out.now c.react.new.out taken c.in_ok-heard.ensures.heard x.2 in (
      x.0,
      subst (λ (k : Following). AreLooks k x.0) c.in_ok-heard.ensures.heard x.1,
      replied_so x.0 f c.react.new.self c.args.msg.now c.in-Node.node c.in_ok-body.body c.in-Ok.items c.args.out.now c.react.new.out (sym c.finished.ensures.finished ∙ c.if-finished.false) c.in-Node.is c.in_ok-body.ensures h,
    )

pub returns-in-Ok-clause-tiles : goal.returns-in-Ok-clause-tiles
returns-in-Ok-clause-tiles g c =
    let f = c.args.self.now in
    let taken : nat_lt (round_of c.in_ok-body.body) f.reader.least ≡ false = ap (λ b. nat_lt (round_of b) f.reader.least) c.in_ok-body.ensures ∙ (sym c.is_stale.ensures ∙ c.if-is_stale.false) in
    let x = c.in-Ok.ensures.acted in
    let h = heard_so (λ k. x.0) f c.hear.new.self c.react.new.self c.in-Node.node c.in_ok-body.body c.in_ok-heard.heard.noted.lasts c.in-Ok.items c.args.out.now c.react.new.out taken c.in_ok-heard.ensures.heard x.2 in
    (read_tiles x.0 f c.react.new.self c.in-Node.node c.in_ok-body.body c.in-Ok.items c.args.out.now c.react.new.out (sym c.finished.ensures.finished ∙ c.if-finished.false) h).tiles

pub returns-in-Ok-clause-within : goal.returns-in-Ok-clause-within
returns-in-Ok-clause-within g c =
    let f = c.args.self.now in
    let taken : nat_lt (round_of c.in_ok-body.body) f.reader.least ≡ false = ap (λ b. nat_lt (round_of b) f.reader.least) c.in_ok-body.ensures ∙ (sym c.is_stale.ensures ∙ c.if-is_stale.false) in
    let x = c.in-Ok.ensures.acted in
    let h = heard_so (λ k. x.0) f c.hear.new.self c.react.new.self c.in-Node.node c.in_ok-body.body c.in_ok-heard.heard.noted.lasts c.in-Ok.items c.args.out.now c.react.new.out taken c.in_ok-heard.ensures.heard x.2 in
    (read_tiles x.0 f c.react.new.self c.in-Node.node c.in_ok-body.body c.in-Ok.items c.args.out.now c.react.new.out (sym c.finished.ensures.finished ∙ c.if-finished.false) h).within

pub returns-in-Ok-clause-whole : goal.returns-in-Ok-clause-whole
returns-in-Ok-clause-whole g c = λ t.
    let heard = c.in_ok-heard.ensures.heard in
    elim (c.in-Ok.ensures.whole t) [
      | inl x ↦ inl (x.0 ∙ ap (λ (v : Following). v.reader.round) heard, x.1 ∙ ap (λ (v : Following). v.reader.seen) heard)
      | inr x ↦ inr x
    ]

pub returns-in-Ok-clause-idle : goal.returns-in-Ok-clause-idle
returns-in-Ok-clause-idle g c = λ none.
    let left = sym c.finished.ensures.finished ∙ c.if-finished.false in
    let taken = sym c.is_stale.ensures ∙ c.if-is_stale.false in
    elim none [
      | inl e ↦ absurd cc
      | inr other ↦ elim other [
        | inl h ↦ absurd (h c.in-Node.node c.in-Node.is)
        | inr stale ↦ absurd cc
      ]
    ]

pub returns-in-Ok-clause-looked : goal.returns-in-Ok-clause-looked
returns-in-Ok-clause-looked g c = λ sure t.
    let f = c.args.self.now in
    let taken : nat_lt (round_of c.in_ok-body.body) f.reader.least ≡ false = ap (λ b. nat_lt (round_of b) f.reader.least) c.in_ok-body.ensures ∙ (sym c.is_stale.ensures ∙ c.if-is_stale.false) in
    let same = confirmed_by f c.hear.new.self c.args.msg.now c.in-Node.node c.in_ok-body.body c.in_ok-heard.heard.noted.lasts (sym c.finished.ensures.finished ∙ c.if-finished.false) c.in-Node.is c.in_ok-body.ensures taken c.in_ok-heard.ensures.heard in
    c.in-Ok.ensures.looked (sym same ∙ sure) t

pub returns-in-Err-clause-due : goal.returns-in-Err-clause-due
returns-in-Err-clause-due g c = λ fault e.
    let f = c.args.self.now in
    let left = sym c.finished.ensures.finished ∙ c.if-finished.false in
    let taken : nat_lt (round_of c.in_ok-body.body) f.reader.least ≡ false = ap (λ b. nat_lt (round_of b) f.reader.least) c.in_ok-body.ensures ∙ (sym c.is_stale.ensures ∙ c.if-is_stale.false) in
    let heard = c.in_ok-heard.ensures.heard in
    elim (c.in-Err.ensures.due fault e) [
      | inl sure ↦ inl (confirmed_by f c.hear.new.self c.args.msg.now c.in-Node.node c.in_ok-body.body c.in_ok-heard.heard.noted.lasts left c.in-Node.is c.in_ok-body.ensures taken heard ∙ sure)
      | inr later ↦ inr (λ looks. replied_later looks f c.hear.new.self c.args.msg.now c.in-Node.node c.in_ok-body.body c.in_ok-heard.heard.noted.lasts left c.in-Node.is c.in_ok-body.ensures taken heard (later looks))
    ]
