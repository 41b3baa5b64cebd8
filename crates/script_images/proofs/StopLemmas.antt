-- What a machine leaves at a stop.
use Rattle.std.proofs.Common.{ℕ, ◌≡◌, ◌-◌, ◌<◌, Bool, if◌then◌else◌, None, Some, List, length, sym, ap, ◌∙◌, arith}
use Rattle.std.proofs.lemmas.Bool.{lt-leb}
use Rattle.block_disk.specs.Crash.{cut_short, done_at, first_stops}
use Rattle.block_disk.specs.Memory.{Memory, bytes_after}
use Rattle.block_disk.specs.declared.crash.Fill.TheVariants.{Kept}
use Rattle.script_lines.specs.Orders as order
use Rattle.script_machine.specs.Images.{image_in}
use Rattle.script_machine.specs.Machine.{MachineState, Declaring, Running, Down, Spent, Steps}
use Rattle.script_machine.specs.States.{Live, begun_at, crash_back}
use Rattle.script_machine.specs.declared.answer.Answer.{Answer}
use Rattle.script_images.specs.Playing.{HasStopped, StopLaw, shown_by}

-- with all calls ended they are all done
all_done : (d : Memory) → done_at (begun_at 0 d) d.stops ≡ d.stops
all_done d =
    let behind : length d.stops < begun_at 0 d = omega arith in
    ap (λ (b : Bool). if b then cut_short (first_stops (begun_at 0 d) d.stops) else d.stops) (lt-leb (begun_at 0 d) (length d.stops) behind)

kept_is : (d : Memory) → crash_back Kept 0 d ≡ bytes_after d.first d.stops
kept_is d = ap (bytes_after d.first) (all_done d)

-- a machine that ran is down then with what it showed
stops_running : (m : Live) (said : Answer) (new : MachineState) → Steps (Running m) (order.Crash Kept 0) said new → image_in new ≡ shown_by (Running m)
stops_running m said new steps = let down = steps.passed (λ few. absurd (omega (arith, few))) in ap image_in down.down ∙ ap Some (kept_is m.store.disk)

pub stop_is : StopLaw
stop_is m down steps = stops_running m _ down steps

-- what is there, is shown
pub there_before : (old : MachineState) (image : List ℕ) → image_in old ≡ Some image → shown_by old ≡ Some image
there_before (Declaring d) image is = absurd cc
there_before (Running m) image is = absurd cc
there_before (Down w) image is = is
there_before Spent image is = absurd cc

-- what is there after a stop, was shown before, where nothing was there
pub there_after : (old new : MachineState) (image : List ℕ) → image_in old ≡ None → HasStopped old new → image_in new ≡ Some image → shown_by old ≡ Some image
there_after (Declaring d) new image none stop is = absurd (let no = sym (ap image_in stop.1.1) ∙ is in cc)
there_after (Running m) new image none stop is = sym (stops_running m stop.0 new stop.1) ∙ is
there_after (Down w) new image none stop is = absurd cc
there_after Spent new image none stop is = absurd (let no = sym (ap image_in stop.1.1) ∙ is in cc)
