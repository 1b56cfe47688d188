use Rattle.std.proofs.Common.{Some, refl, inl, inr, ⊎_elim}
use Rattle.ld_crowd.specs.Serving.{put}
use Rattle.ld_serve.specs.Chats.{held_in}
use Rattle.ld_serve.proofs.group.stage.Goals as goal

pub returns-in-Ok-keep-clause-tries : goal.returns-in-Ok-keep-clause-tries
returns-in-Ok-keep-clause-tries g c = inl (record {
  peer = c.args.peer;
  message = c.args.message;
  rest = c.args.decoder.bytes;
  others = held_in c.args.chats.now.chats;
  is = c.requires.message;
  now_is = λ q. refl;
  stages = c.in-Ok.ensures.staged;
  held_is = c.in-Ok-keep.ensures.kept;
})

pub returns-in-Ok-clause-tries : goal.returns-in-Ok-clause-tries
returns-in-Ok-clause-tries g c = inr (
  refl,
  inl (
    put c.args.peer (Some c.args.decoder.bytes) (held_in c.args.chats.now.chats),
    record {
      peer = c.args.peer;
      message = c.args.message;
      rest = c.args.decoder.bytes;
      others = held_in c.args.chats.now.chats;
      is = c.requires.message;
      now_is = λ q. refl;
      stages = c.in-Ok.ensures.staged;
      held_is = λ q. refl;
    },
  ),
)

pub returns-clause-tries : goal.returns-clause-tries
returns-clause-tries g c = inl (record {
  peer = c.args.peer;
  message = c.args.message;
  rest = c.args.decoder.bytes;
  others = held_in c.args.chats.now.chats;
  now_is = λ q. refl;
  waits = c.in-Err.ensures.same;
  why = ⊎_elim (λ e. absurd (c.in_default.not-Disk e)) (λ why. why) c.in-Err.ensures.off;
})
