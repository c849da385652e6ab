use Rattle.std.proofs.Common.{◌≡◌, ◌<◌, ◌≤◌, ℕ, Bool, true, false, List, [], Some, length, refl, sym, subst, append-nil}
use Rattle.std.proofs.lemmas.Bool.{lt-ltb, le-ltb}
use Rattle.mq_client.specs.declared.block.OpenBlock.{OpenBlock}
use Rattle.mq_client.specs.declared.event.ClientEvent.{ClientEvent}
use Rattle.mq_client.specs.Session.{Session}
use Rattle.mq_client.specs.Frames.{OnSome, OnPart, OnBlock, OnWhole}
use Rattle.mq_client.proofs.Goings.{broke_all, gave_as_all}
use Rattle.mq_client.proofs.parts.Parts.on_part.Goals as goal

some_by : (over : Bool) (many whole : Bool) (b : OpenBlock) (s : Session) (events : List ClientEvent) (t : Session) → many ≡ over → OnSome over whole b s events t → OnSome many whole b s events t
some_by over many whole b s events t e is = subst (λ (k : Bool). OnSome k whole b s events t) (sym e) is

pub returns-then-as_slice-gt-MAX_BLOCK : goal.returns-then-as_slice-gt-MAX_BLOCK
returns-then-as_slice-gt-MAX_BLOCK c = λ s is.
    let a = c.args in
    let b = a.block in
    let over : 16384 < length b.bytes = subst (λ (bytes : List ℕ). 16384 < length bytes) c.as_slice.ensures c.if-as_slice-gt-MAX_BLOCK.true in
    broke_all 11 _ a.events.now.items c.bad.new.events.items _ s c.bad.result
    (some_by true _ a.whole b s _ _ (lt-ltb 16384 (length b.bytes) over) (refl, refl)) is.serves c.bad.ensures

pub returns-then-whole : goal.returns-then-whole
returns-then-whole c = λ s is.
    let a = c.args in
    let b = a.block in
    let within : length b.bytes ≤ 16384 = subst (λ (bytes : List ℕ). length bytes ≤ 16384) c.as_slice.ensures c.if-as_slice-gt-MAX_BLOCK.false in
    gave_as_all (OnWhole b s) (OnBlock a.whole b s) a.events.now.items c.on_whole.new.events.items c.on_whole.new.self c.on_whole.result
    (λ events t on. some_by false _ a.whole b s events t (le-ltb 16384 (length b.bytes) within)
    (subst (λ (k : Bool). OnPart k b s events t) (sym c.if-whole.true) on)) (c.on_whole.ensures s is)

pub returns : goal.returns
returns c = λ s is.
    let a = c.args in
    let b = a.block in
    let within : length b.bytes ≤ 16384 = subst (λ (bytes : List ℕ). length bytes ≤ 16384) c.as_slice.ensures c.if-as_slice-gt-MAX_BLOCK.false in
    let t : Session = record s { block = Some b } in
    let x = is.serves in
    record {
      given = [];
      state = t;
      so = some_by false _ a.whole b s [] t (le-ltb 16384 (length b.bytes) within) (subst (λ (k : Bool). OnPart k b s [] t) (sym c.if-whole.false) (refl, refl));
      added = sym (append-nil a.events.now.items);
      over_is = refl;
      leads = record {
        decodes = record {
          serves = record { streams = x.streams; live = x.live; waits_are = x.waits_are; owed_is = x.owed_is; within = x.within };
          decoder = is.decoder;
          stage_is = is.stage_is;
        };
        block = refl;
      };
    }
