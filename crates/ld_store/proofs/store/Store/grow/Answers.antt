use Rattle.ld_segment.specs.Lies.{written}
use Rattle.ld_store.specs.Open.{layout_of, slots_of}
use Rattle.ld_store.proofs.Turned.{lies_turned, sound_turned}
use Rattle.ld_store.proofs.store.Store.grow.Goals as goal

pub returns-clause-holds : goal.returns-clause-holds
returns-clause-holds g c holds =
    let old = c.args.self.now in
    record {
      bytes = holds.bytes;
      rests = holds.rests;
      lies = lies_turned (layout_of old) c.args.grows (written (layout_of old)) (slots_of old) holds.bytes holds.lies;
      sound = sound_turned (layout_of old) c.args.grows holds.sound;
      plain = holds.plain;
      inside = holds.inside;
      blank = holds.blank;
      works = holds.works;
      none = holds.none;
    }

pub returns-clause-opened : goal.returns-clause-opened
returns-clause-opened g c bytes opened = record { holds = λ p stands. returns-clause-holds g c (opened.holds p stands); plain = opened.plain; blank = opened.blank; some = opened.some }
