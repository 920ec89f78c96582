-- Document 01, "Units and the image": its units, and the limits that its questions and demand 3 name.
-- An angle is a whole number of nd, 10^-9 degree, north and east positive; a height is a whole number of units of 0.0001 m.
use Rattle.std.specs.Prelude.{Bool, ◌&&◌, ℕ, ◌*◌, leb, ℤ, nat_abs}

-- Degrees, in nd.
abbrev pub degrees : ℕ → ℕ
degrees n = n * 1000000000

-- n is from low to high, both included.
abbrev pub between : ℕ → ℕ → ℕ → Bool
between low high n = leb low n && leb n high

-- z is at most n from zero.
abbrev pub within : ℕ → ℤ → Bool
within n z = leb (nat_abs z) n

-- Questions 5, 7 and 13: latitudes are within 90 degrees of zero, longitudes within 180.
abbrev pub latitude_limit : ℕ
latitude_limit = degrees 90

abbrev pub longitude_limit : ℕ
longitude_limit = degrees 180

-- Question 3: at most 4,096 rows and columns. Question 4: a spacing of at most 100,000,000 nd.
abbrev pub count_most : ℕ
count_most = 4096

abbrev pub spacing_most : ℕ
spacing_most = 100000000

-- Question 7: the height of a fix going out, which is ellipsoidal, and going back, a NAP height, in units.
abbrev pub out_height_limit : ℕ
out_height_limit = 100000000

abbrev pub back_height_limit : ℕ
back_height_limit = 110000000

-- Question 9: a correction in nd, and a quasi-geoid height in units.
abbrev pub correction_limit : ℕ
correction_limit = 10000000

abbrev pub quasi_geoid_limit : ℕ
quasi_geoid_limit = 1000000

-- The way out: the stop rule's distance in nd, that with a dense grid (document 02, note 5), and how many evaluations it makes at most.
abbrev pub stop_distance : ℕ
stop_distance = 1

abbrev pub dense_stop_distance : ℕ
dense_stop_distance = 3

abbrev pub most_evaluations : ℕ
most_evaluations = 5

-- The number of an answer without a height (document 02, note 6).
abbrev pub no_height_number : ℕ
no_height_number = 100

-- Demand 3: how far inside the bounds a fix and a Bessel point lie, in nd, and the limit of that point's NAP height.
abbrev pub fix_margin : ℕ
fix_margin = 10000000

abbrev pub point_margin : ℕ
point_margin = 20000000

abbrev pub point_height_limit : ℕ
point_height_limit = 99000000
