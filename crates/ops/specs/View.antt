-- Document 01, "What an op costs": what the code of an op answers, and what a step hands it of a
-- plan. Assumes nothing.
use Rattle.std.specs.Prelude.{ℕ, List, []}
use Rattle.plan.specs.declared.Plan.{Plan}
use Rattle.ops.specs.declared.OpResult.{OpResult}
use Rattle.ops.specs.Ops.{Effect}

-- an answer with the cache table and the boxes after the call
abbrev pub effect_with : OpResult → List ℕ → List ℕ → Effect
effect_with result cache boxes =
    record {
      ticks = result.ticks;
      seen = result.seen;
      first = result.first;
      second = result.second;
      cache = cache;
      boxes = boxes;
    }

-- a plan of which only the rights and the masks are said: no op's definition reads the rest
abbrev pub view_of : List ℕ → List ℕ → Plan
view_of rights masks =
    record {
      pad = 0;
      run = 0;
      domains = 0;
      windows = 0;
      shares = [];
      rights = rights;
      owners = [];
      lengths = [];
      masks = masks;
    }
