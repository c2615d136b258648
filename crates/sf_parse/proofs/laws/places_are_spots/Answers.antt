use Rattle.sf_parse.proofs.LineSpots as line_spots
use Rattle.sf_parse.proofs.laws.places_are_spots.Goals as goal

pub returns : goal.returns
returns c = line_spots.places_are_spots
