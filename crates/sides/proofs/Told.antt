-- The laws that the two functions tell, as they tell them.
use Rattle.sha256.specs.Sha256.{sha256}
use Rattle.boxes.proofs.Digests.{length-sha256}
use Rattle.round.specs.Line.{Other}
use Rattle.secrecy.specs.Secrecy.{Secrecy}
use Rattle.secrecy.proofs.All.{secret}
use Rattle.secrecy.proofs.ByLots.{by_lots-all}
use Rattle.secrecy.proofs.Misses.{glass-shows}
use Rattle.soundness.specs.Knows.{OneEach}
use Rattle.soundness.specs.Texts.{PutsFew}
use Rattle.soundness.proofs.Bounds.{one_each, sound-along, sound-whole}
use Rattle.soundness.proofs.Few.{puts_few}
use Rattle.soundness.proofs.Found.{found_boxes}
use Rattle.soundness.proofs.Shares.{knows-along-drawn, knows-enough, sound-along-drawn, sound-drawn, sound-along-enough, sound-enough}
use Rattle.joined.specs.Refused.{RefusedEnds}
use Rattle.joined.specs.Sides.{NothingAfter, SidesRun}
use Rattle.joined.proofs.Answered.{completes}
use Rattle.joined.proofs.Cases.{all-cases, all_faults}
use Rattle.joined.proofs.Joins.{joins}
use Rattle.joined.proofs.Refused.{refused_ends}
use Rattle.joined.proofs.Sides.{joined_is, sides_run, nothing_after}
use Rattle.blameless.specs.Blameless.{Blameless}
use Rattle.blameless.proofs.Clearing.{blameless}
use Rattle.faultless.specs.Faultless.{Faultless}
use Rattle.faultless.proofs.Passes.{faultless}

-- with SHA-256
pub keeps_secret : Secrecy sha256
keeps_secret = secret sha256 length-sha256

pub never_blamed : Blameless sha256
never_blamed = blameless sha256 length-sha256

pub passes : Faultless sha256
passes = faultless sha256

pub asks_few : (other : Other) → PutsFew sha256 other
asks_few = puts_few sha256

pub reads_few : (other : Other) → OneEach sha256 other
reads_few = one_each sha256

pub run_so : SidesRun sha256
run_so = sides_run sha256

pub fixed : NothingAfter sha256
fixed = nothing_after sha256

pub ends : RefusedEnds sha256
ends = refused_ends sha256

pub ruleset planner_laws = (keeps_secret, by_lots-all, glass-shows, completes, joins, run_so, joined_is, fixed, ends, all-cases, all_faults)

pub ruleset asker_laws = (
  sound-along,
  sound-whole,
  sound-along-drawn,
  sound-drawn,
  found_boxes,
  asks_few,
  sound-along-enough,
  sound-enough,
  knows-along-drawn,
  knows-enough,
  reads_few,
  joins,
  run_so,
  joined_is,
  fixed,
  ends,
  all-cases,
  all_faults,
  passes,
)
