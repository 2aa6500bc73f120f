-- The regions of a device, by the list of those in use.
use Rattle.std.specs.Prelude.{◌+◌, min, List, take, replicate, None, from_bits, slice_set, refl}
use Rattle.std.proofs.Common.{◌∙◌, arith, length-set}
use Rattle.std.specs.Float.{binary32}
use Rattle.ei.specs.declared.device.Region.{Region}
use Rattle.records.specs.declared.regions.Regions.{Regions}

-- those in use, in the order of their arrival
abbrev pub regions_of : Regions → List Region
regions_of rs = take rs.count rs.items

-- a place that is not in use
abbrev blank : Region
blank = record { x = 0; y = 0; width = 0; height = 0; scale = from_bits binary32 0; mapping_id = None }

unfoldable pub no_regions : Regions
no_regions = record { items = replicate 8 blank; count = 0; long = refl; few = omega arith }

-- one region more, behind the others; a ninth is left out
unfoldable pub with_region : Region → Regions → Regions
with_region r rs = record { items = slice_set rs.items rs.count r; count = min (rs.count + 1) 8; long = length-set rs.items rs.count r ∙ rs.long; few = omega arith }
