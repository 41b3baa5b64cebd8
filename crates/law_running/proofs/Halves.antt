-- What sessions read in the midst of a round.
use Rattle.std.proofs.Common.{◌≡◌, List, [], ◌∷◌, ◌++◌, length, sym, ap, ◌∙◌, arith}
use Rattle.std.proofs.lemmas.List.{length-append}
use Rattle.block_disk.specs.Device.{Device}
use Rattle.monitor.specs.Views.{noted}
use Rattle.monitor.specs.declared.view.Note.{Note}
use Rattle.store_rounds.specs.Store as stores
use Rattle.thread_steps.specs.Views.{plan}
use Rattle.trim_helper.specs.Helping.{count_published}
use Rattle.law_running.specs.Told.{RisesLaw}
use Rattle.law_running.specs.Halves.{ReadWhilePublishingLaw, ReadWhileSettlingLaw}

-- a list that goes on from one and is gone on from by the same is that one
none_between : {A : Type 0} (xs ys newer more : List A) → ys ≡ newer ++ xs → xs ≡ more ++ ys → ys ≡ xs
none_between xs ys [] more is back = is
none_between xs ys (a ∷ newer) more is back =
    let one = ap (λ (l : List _). length l) is ∙ length-append (a ∷ newer) xs in
    let two = ap (λ (l : List _). length l) back ∙ length-append more ys in
    absurd (omega (arith, one, two))

module _ {D : Type 0} (device : D → Device) where
  pub read_settling : ReadWhileSettlingLaw device
  read_settling h p x y t sections helping serving noted_same by =
      let same : by.helper.view.notes ≡ x.seat.view.notes = none_between x.seat.view.notes by.helper.view.notes by.after.0 by.before.0 by.after.1 (sym noted_same.notes ∙ by.before.1) in
      record {
        helping = helping;
        serves = serving;
        reads = record {
          moment = by.moment;
          helper = by.helper;
          is = by.is;
          no_more = record { next = by.next; counts = λ l. let kept : count_published by.helper l ≡ count_published x.seat l = ap (λ (ns : List Note). noted l ns) same in omega (arith, kept) };
          was = by.was;
          reads = by.reads;
          seated = by.seated;
        };
      }

  pub read_publishing : RisesLaw → ReadWhilePublishingLaw device
  read_publishing rises h p x y now t sections helping serving durable published at by =
      let threads : y.store.known.threads ≡ x.store.known.threads = ap (λ (z : stores.Parts D). z.known.threads) published.store in
      let serves = published.serves (plan h) p serving durable in
      let all : by.helper.next ≡ y.seat.next = by.next ∙ helping.seat.all ∙ sym published.seat.all in (
        record {
          helping = record {
            seat = published.seat;
            lanes = helping.lanes ∙ sym threads;
            rings = ap (λ (r : List _). length r) published.rings ∙ helping.rings;
            nobody = published.taken ∙ helping.nobody;
            past = p;
            serving = serves;
          };
          serves = serves;
          reads = record { moment = by.moment; helper = by.helper; is = by.is; no_more = rises h now by.helper y.seat at all by.before; was = by.was; reads = by.reads; seated = by.seated };
        },
        published.store,
      )
